pub mod NineBytes
