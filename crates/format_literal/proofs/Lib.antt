mod Fixes
mod Hashes
mod RawTokens
mod Reading
