use Rattle.std.proofs.Common.{◌≡◌, refl, sym, ap, ◌∙◌, [], ◌++◌, List, ℕ, ◌≤◌, length, arith}
use Rattle.array.specs.Buffer.{span}
use Rattle.listing.specs.Parts.{HasRoom}
use Rattle.listing.proofs.Cases.{file_read, file_refused}
use Rattle.listing.proofs.Fits.{listing_fits}
use Rattle.listing.proofs.list_map.Goals as goal

-- an empty text has room for what a listing is
empty_room : {text lines whole : List ℕ} → text ≡ [] → whole ≡ lines → length whole ≤ 32768 → HasRoom text lines
empty_room t e h = omega (arith, ap length t, ap length e, h)

from_empty : {text lines whole new : List ℕ} → text ≡ [] → whole ≡ lines → new ≡ text ++ lines → new ≡ whole
from_empty {text} {lines} t e n = n ∙ ap (λ (x : List ℕ). x ++ lines) t ∙ sym e

pub push_map-requires : goal.push_map-requires
unfolding span
push_map-requires c =
    let a = c.args in
    let r = c.read_map.ensures in
    let e = file_read a.planner a.s.now c.read_map.result refl r.0 r.1 c.in-Ok.is in
    empty_room c.requires e (listing_fits a.planner a.s.now)

pub push_refusal-requires : goal.push_refusal-requires
unfolding span
push_refusal-requires c =
    let a = c.args in
    let r = c.read_map.ensures in
    let e = file_refused a.planner a.s.now c.read_map.result refl r.0 r.1 c.in-Err.is in
    empty_room c.requires e (listing_fits a.planner a.s.now)

pub returns-in-Ok : goal.returns-in-Ok
unfolding span
returns-in-Ok c =
    let a = c.args in
    let r = c.read_map.ensures in
    from_empty c.requires (file_read a.planner a.s.now c.read_map.result refl r.0 r.1 c.in-Ok.is) c.push_map.ensures

pub returns-in-Err : goal.returns-in-Err
unfolding span
returns-in-Err c =
    let a = c.args in
    let r = c.read_map.ensures in
    from_empty c.requires (file_refused a.planner a.s.now c.read_map.result refl r.0 r.1 c.in-Err.is) c.push_refusal.ensures
