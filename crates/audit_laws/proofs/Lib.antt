pub mod EventLines
pub mod Shapes
pub mod Origins
pub mod Safety
pub mod Delivery
pub mod Fair
pub mod RunsFair
pub mod Rows
