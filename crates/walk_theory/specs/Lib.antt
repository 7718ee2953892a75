pub mod LeastWalks
