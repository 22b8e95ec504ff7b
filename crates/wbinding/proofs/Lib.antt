mod Views
mod Placed
mod FunctionFacts
mod Made
mod GroupFacts
