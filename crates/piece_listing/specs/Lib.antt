pub mod Listing
pub mod Source
pub mod GivenArguments
pub mod Program
pub mod SeenTask
