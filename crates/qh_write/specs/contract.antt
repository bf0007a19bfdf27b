-- Further definitions that the contracts of public functions cite.
pub mod Devices
pub mod LineDevices
pub mod Pieces
