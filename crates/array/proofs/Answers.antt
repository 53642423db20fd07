-- `told` loses nothing of a verdict, and `refuses_as` nothing of a refusal.
-- Assumes nothing.
use Prim.Native.Nat.{ℕ}
use mathlib.Core.Path.{◌≡◌, refl, ap, sym, ◌∙◌}
use native.Mathlib.Omega.{arith}
use Rattle.array.specs.Tests.{told, refused_for, refuses_as, LosesNothing}
use Rattle.array.specs.Reason.{number_of, reason_of}
use Rattle.array.specs.declared.Reason.{Reason}
use Rattle.array.specs.declared.Reason.TheVariants.{Unknown, Size, BufferLength, Mark, Direction, NotOpen, Meeting, NearMiss}
use Rattle.array.specs.declared.Reason.TheVariants.{FileEnds, NumberForm, RecordPlace, Repeated, Trailing, RecordDirection, Room}
use Rattle.array.specs.declared.Reason.TheVariants.{NoSuchLink, SwitchByte, TrackEnds, FourthSwitch, RecordOrder, DeadPlace, Trials}
use Rattle.array.specs.declared.Reason.TheVariants.{NothingNew, InUseOrDead, NoDirection}
use Rattle.array.specs.declared.Refusal.{Refusal}
use Rattle.std.specs.Prelude.{Ok, Err}

pub reason_kept : (r : Reason) → reason_of (number_of r) ≡ r
reason_kept = elim [
  | Unknown ↦ refl
  | Size ↦ refl
  | BufferLength ↦ refl
  | Mark ↦ refl
  | Direction ↦ refl
  | NotOpen ↦ refl
  | Meeting ↦ refl
  | NearMiss ↦ refl
  | FileEnds ↦ refl
  | NumberForm ↦ refl
  | RecordPlace ↦ refl
  | Repeated ↦ refl
  | Trailing ↦ refl
  | RecordDirection ↦ refl
  | Room ↦ refl
  | NoSuchLink ↦ refl
  | SwitchByte ↦ refl
  | TrackEnds ↦ refl
  | FourthSwitch ↦ refl
  | RecordOrder ↦ refl
  | DeadPlace ↦ refl
  | Trials ↦ refl
  | NothingNew ↦ refl
  | InUseOrDead ↦ refl
  | NoDirection ↦ refl
]

same_refusal : {a b : Reason} {p p' q q' : ℕ} → a ≡ b → p ≡ p' → q ≡ q' → refused_for a p q ≡ refused_for b p' q'
same_refusal a b d = rw (a, b, d)

same_number : (a b : Reason) → number_of a ≡ number_of b → a ≡ b
same_number a b h = sym (reason_kept a) ∙ ap reason_of h ∙ reason_kept b

pub refusal_kept : (r s : Refusal) → refuses_as r ≡ refuses_as s → r ≡ s
refusal_kept r s h = same_refusal (same_number r.reason s.reason (cc)) (cc) (cc)

pub verdict_kept : LosesNothing told
verdict_kept (Ok _) (Ok _) h = refl
verdict_kept (Ok _) (Err s) h = let z : ◌≡◌ {A = ℕ} 0 1 = cc in absurd (omega arith)
verdict_kept (Err r) (Ok _) h = let z : ◌≡◌ {A = ℕ} 0 1 = cc in absurd (omega arith)
verdict_kept (Err r) (Err s) h = ap Err (refusal_kept r s h)
