pub mod Node
pub mod Canon
pub mod Reading
pub mod Links
pub mod Making
pub mod Tree
pub mod Views
