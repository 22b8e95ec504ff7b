mod Running
mod LeafFacts
mod ReadFacts
mod TruthFacts
mod NumberFacts
mod AmongFacts
