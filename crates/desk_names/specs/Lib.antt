pub mod ClassNames
pub mod States
pub mod Pieces
pub mod SignatureScan
pub mod SignaturePieces
pub mod Laws
