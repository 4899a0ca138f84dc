pub mod Chain
pub mod Effects
pub mod Place
pub mod Release
pub mod Stage
pub mod View
