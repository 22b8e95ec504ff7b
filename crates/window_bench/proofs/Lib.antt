mod WordFacts
mod WindowFacts
