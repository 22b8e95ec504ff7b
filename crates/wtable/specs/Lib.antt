pub mod Tables
pub mod Few
pub mod TableOrders
pub mod Referenced
pub mod Leading
pub mod Front
