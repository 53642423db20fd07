-- Document 01, "Numbers returned": when the follower refuses a link with 17 and with 18, on any wafer.
-- Assumes nothing.
use Rattle.std.specs.Prelude.{ℕ, suc, ◌≤◌, ◌<◌, ◌≡◌, true, false, ◌⊎◌, ◌↔◌, Err, None, Some}
use Rattle.array.specs.Map.{faulty}
use Rattle.array.specs.Tests.{refusal}
use Rattle.array.specs.declared.Refusal.{Refusal}
use Rattle.track.specs.Ports.{Wafer, stretch_from}
use Rattle.track.specs.declared.ports.Port.{Port}
use Rattle.track.specs.Link.{inside, ends, on, stops, is_switch}
use Rattle.track.specs.Follower.{position_of, out_of, seat_of, refused, followed}

-- A link's run as far as it has come: it has passed k switches, the last of them at c, or c is the cell's processor if none
-- was, and it leaves by a port.
pub data Passed (w : Wafer) (cell side : ℕ) : ℕ → ℕ → Port → Type 0 where
  begun : Passed w cell side 0 (seat_of w cell) (out_of (seat_of w cell) side)
  by_switch : {k c : ℕ} {o i q : Port} → Passed w cell side k c o → stretch_from w o ≡ Some i → is_switch i.node ≡ true → inside w i ≡ on q
      → Passed w cell side (suc k) (position_of i.node) q
  by_fault : {k c : ℕ} {o i q : Port} → Passed w cell side k c o → stretch_from w o ≡ Some i → is_switch i.node ≡ false → inside w i ≡ on q
      → Passed w cell side k c q

-- 17: the track ends, before a fourth switch, at an unjoined port of a switch, which was entered, or of a fault (any port
-- of a dead one), at a missing switch or at a faulty spare; the place is the switch last entered, or where the cell sits
-- while there is none
pub data TrackEnds (w : Wafer) (cell side : ℕ) : ℕ → Type 0 where
  unjoined_switch : {k c : ℕ} {o i : Port} → Passed w cell side k c o → k < 3 → stretch_from w o ≡ Some i → is_switch i.node ≡ true
      → inside w i ≡ stops → TrackEnds w cell side (position_of i.node)
  unjoined_fault : {k c : ℕ} {o i : Port} → Passed w cell side k c o → k ≤ 3 → stretch_from w o ≡ Some i → is_switch i.node ≡ false
      → inside w i ≡ stops → TrackEnds w cell side c
  missing_switch : {k c : ℕ} {o : Port} → Passed w cell side k c o → k ≤ 3 → stretch_from w o ≡ None → TrackEnds w cell side c
  faulty_spare : {k c : ℕ} {o i : Port} → Passed w cell side k c o → k ≤ 3 → stretch_from w o ≡ Some i → inside w i ≡ ends
      → faulty w.grid (position_of i.node) ≡ true → TrackEnds w cell side c

-- 18: a fourth switch would be entered; the place is that switch
pub data FourthSwitch (w : Wafer) (cell side : ℕ) : ℕ → Type 0 where
  fourth : {c : ℕ} {o i : Port} → Passed w cell side 3 c o → stretch_from w o ≡ Some i → is_switch i.node ≡ true
      → FourthSwitch w cell side (position_of i.node)

-- the follower refuses a link with 17 and 18 exactly then, and with no other number
pub record FollowerRefuses : Type 0 where
  pub seventeen : (w : Wafer) (cell side p : ℕ) → (followed w cell side ≡ refused 17 p) ↔ TrackEnds w cell side p
  pub eighteen : (w : Wafer) (cell side p : ℕ) → (followed w cell side ≡ refused 18 p) ↔ FourthSwitch w cell side p
  pub no_other : (w : Wafer) (cell side : ℕ) (r : Refusal) → followed w cell side ≡ Err r
      → (r ≡ refusal 17 r.place 0) ⊎ (r ≡ refusal 18 r.place 0)
