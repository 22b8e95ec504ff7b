mod Labels
mod Missing
