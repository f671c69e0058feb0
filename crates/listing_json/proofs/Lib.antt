mod Depths
mod Adding
mod Chains
mod Walking
