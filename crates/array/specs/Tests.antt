-- Documents 01, "Numbers returned", and 02: a refusal, tests in order, and the first offender.
-- Assumes nothing.
use Rattle.std.specs.Prelude.{ℕ, suc, ◌≤◌, ◌≡◌, Bool, cond, List, [], ◌∷◌, Result, Ok, Err}
use Rattle.array.specs.declared.Reason.{Reason}
use Rattle.array.specs.declared.Refusal.{Refusal}
use Rattle.array.specs.Reason.{number_of, reason_of}

-- what tests say of a call
abbrev pub Verdict : Type 0
Verdict = Result (Unit {0}) Refusal

abbrev pub accepted : Verdict
accepted = Ok tt

-- what tests say that hand on what they have tested
abbrev pub verdict_of : {A : Type 0} → Result A Refusal → Verdict
verdict_of (Ok _) = Ok tt
verdict_of (Err r) = Err r

-- a refusal for this reason
abbrev pub refused_for : Reason → ℕ → ℕ → Refusal
refused_for why p q = record { reason = why; place = p; second = q }

-- the number returned, its place and its second place
abbrev pub refusal : ℕ → ℕ → ℕ → Refusal
refusal k p q = refused_for (reason_of k) p q

abbrev pub refuse : ℕ → ℕ → ℕ → Verdict
refuse k p q = Err (refusal k p q)

abbrev pub refuse_if : Bool → ℕ → ℕ → ℕ → Verdict
refuse_if b k p q = cond b (refuse k p q) accepted

-- the first test's refusal, else what the later tests say
abbrev pub or_else : Verdict → Verdict → Verdict
or_else (Ok _) later = later
or_else (Err r) later = Err r

-- the first refusal among f x, for the elements x of a list in its order
unfoldable pub first_of : {A : Type 0} → (A → Verdict) → List A → Verdict
first_of f [] = accepted
first_of f (x ∷ xs) = or_else (f x) (first_of f xs)

-- the first refusal among f p x, for the elements x of a buffer at the ascending positions p, from i on
unfoldable pub first_along : (ℕ → ℕ → Verdict) → ℕ → List ℕ → Verdict
first_along f i [] = accepted
first_along f i (x ∷ xs) = or_else (f i x) (first_along f (suc i) xs)

-- the refusal at the lowest position of a buffer that has one
abbrev pub first_in : (ℕ → ℕ → Verdict) → List ℕ → Verdict
first_in f b = first_along f 0 b

-- What an answer tells: the values of an accepted call, or the documents' number, place and second place.
pub data Told : Type 0 where
  accepts : List ℕ → Told
  refuses : ℕ → ℕ → ℕ → Told

abbrev pub refuses_as : Refusal → Told
refuses_as r = refuses (number_of r.reason) r.place r.second

-- of an operation that returns nothing beyond its buffers
abbrev pub told : Verdict → Told
told (Ok _) = accepts []
told (Err r) = refuses_as r

-- the documents' numbers of refusals are 1 to this one, the last that document 02 names
abbrev pub last_number : ℕ
last_number = 29

-- no refusal, or one with such a number
abbrev pub Numbered : Told → Type 0
Numbered (accepts values) = Unit {0}
Numbered (refuses k p q) = (1 ≤ k) × (k ≤ last_number)

-- the statement that a definition such as `told` loses nothing of an answer
abbrev pub LosesNothing : {A : Type 0} → (A → Told) → Type 0
LosesNothing {A} told = (x y : A) → told x ≡ told y → x ≡ y
