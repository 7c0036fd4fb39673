pub mod Local
pub mod KeptPmsi
pub mod Judged
pub mod route_order
pub mod edge_home
