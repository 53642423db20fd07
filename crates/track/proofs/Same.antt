-- A piece of track is the same as itself, run over either way, and as no other.
-- Assumes nothing.
use mathlib.Core.Path.{◌≡◌, refl}
use mathlib.Core.Logic.{◌⊎◌, inl, inr}
use Rattle.track.specs.Pieces.{Piece, stretch, join, Same, reversed, SamePieces}

itself : (x : Piece) → Same x x
itself (stretch u v) = inl (refl, refl)
itself (join k s t) = (refl, inl (refl, refl))

other_way : (x : Piece) → Same x (reversed x)
other_way (stretch u v) = inr (refl, refl)
other_way (join k s t) = (refl, inr (refl, refl))

no_other : (x y : Piece) → Same x y → (x ≡ y) ⊎ (x ≡ reversed y)
no_other (stretch u v) (stretch u' v') (inl (e, f)) = inl (rw (e, f) refl)
no_other (stretch u v) (stretch u' v') (inr (e, f)) = inr (rw (e, f) refl)
no_other (stretch u v) (join k s t) h = absurd h
no_other (join k s t) (stretch u v) h = absurd h
no_other (join k s t) (join k' s' t') (d, inl (e, f)) = inl (rw (d, e, f) refl)
no_other (join k s t) (join k' s' t') (d, inr (e, f)) = inr (rw (d, e, f) refl)

pub same_pieces : SamePieces
same_pieces = record { itself = itself; other_way = other_way; no_other = no_other }
