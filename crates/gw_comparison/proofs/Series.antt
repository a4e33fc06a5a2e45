-- Texts that are written one after the other.
pub use Rattle.gw_drawing.proofs.Series.{chain5}
