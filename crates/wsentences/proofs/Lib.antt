mod Adding
mod Numbers
