mod LawFiles
pub mod LawPieces
