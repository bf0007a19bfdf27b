mod Cutting
mod Placing
