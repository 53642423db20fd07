-- Document 01, "Placement and routing": the pieces of track of a link.
-- Assumes nothing.
use Rattle.std.specs.Prelude.{◌≡◌, ◌⊎◌, List, [], ◌∷◌}
use Rattle.track.specs.declared.ports.Compass.{Compass}
use Rattle.track.specs.declared.ports.Node.{Node}
use Rattle.track.specs.declared.ports.Port.{Port}
use Rattle.track.specs.Link.{Trail, passes, enters, unjoined_at, no_stretch, unfinished}

-- a piece of track: a stretch, known by the two neighbouring ports that it lies between, or a join, known by where it
-- is and which two ports it joins
pub data Piece : Type 0 where
  stretch : Port → Port → Piece
  join : Node → Compass → Compass → Piece

-- all that a link runs over, from the port o that it leaves by to the port that it enters by
unfoldable pub pieces : Port → Trail → List Piece
pieces o (passes i q t) = stretch o i ∷ join i.node i.side q.side ∷ pieces q t
pieces o (enters i) = stretch o i ∷ []
pieces o (unjoined_at i) = stretch o i ∷ []
pieces o no_stretch = []
pieces o unfinished = []

-- two things in either order
abbrev pub SameTwo : {A : Type 0} → A → A → A → A → Type 0
SameTwo u v u' v' = ((u ≡ u') × (v ≡ v')) ⊎ ((u ≡ v') × (v ≡ u'))

-- the same piece, whichever way it is run over
abbrev pub Same : Piece → Piece → Type 0
Same (stretch u v) (stretch u' v') = SameTwo u v u' v'
Same (stretch u v) (join k s t) = ⊥
Same (join k s t) (stretch u v) = ⊥
Same (join k s t) (join k' s' t') = (k ≡ k') × SameTwo s t s' t'

-- a piece run over the other way
abbrev pub reversed : Piece → Piece
reversed (stretch u v) = stretch v u
reversed (join k s t) = join k t s

-- the statement that a piece is the same as itself, run over either way, and as no other
pub record SamePieces : Type 0 where
  pub itself : (x : Piece) → Same x x
  pub other_way : (x : Piece) → Same x (reversed x)
  pub no_other : (x y : Piece) → Same x y → (x ≡ y) ⊎ (x ≡ reversed y)
