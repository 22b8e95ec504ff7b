mod Collected
mod Among
