pub mod KeptBlocks
pub mod RightUnions
pub mod Roots
pub mod WorkedBoards
