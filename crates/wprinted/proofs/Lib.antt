mod Lines
mod TextLines
mod BackLines
mod BesideFacts
