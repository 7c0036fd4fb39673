pub mod Ingress
pub mod Answers
