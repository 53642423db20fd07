-- Document 01, "Files", and document 02, T-06: the numbers of a file. A number is one to three groups of seven bits, low
-- group first, in bytes of which all but the last have their top bit set, in its shortest form; 2,097,151 is the highest.
-- s is the file, `at` an offset. Assumes nothing.
use Rattle.std.specs.Prelude.{ℕ, zero, suc, ◌+◌, ◌-◌, ◌*◌, ◌/◌, ◌%◌, ◌<◌, cond, List, [], ◌∷◌, ltb, leb, eqb, length, get_or, Result, Ok, Err}
use Rattle.array.specs.Place.{size}
use Rattle.array.specs.Tests.{refusal, Told, accepts, refuses_as}
use Rattle.array.specs.declared.Refusal.{Refusal}

-- a file's elements are bytes
abbrev pub Bytes : List ℕ → Type 0
Bytes s = (i : ℕ) → i < length s → get_or s i 0 < 256

-- what reading a number answers: its value with the offset after it, or the refusal
abbrev pub Number : Type 0
Number = Result (ℕ × ℕ) Refusal

-- what a number's answer tells: its value and the offset after it, or the refusal
abbrev pub told : Number → Told
told (Ok (v, next)) = accepts (v ∷ next ∷ [])
told (Err r) = refuses_as r

abbrev pub refused : ℕ → ℕ → Number
refused k p = Err (refusal k p 0)

-- how many groups a number may have, and what is above all numbers of at most k groups: 128, 16,384, 2,097,152
abbrev pub most_groups : ℕ
most_groups = 3

abbrev pub groups_limit : ℕ → ℕ
groups_limit zero = 1
groups_limit (suc k) = 128 * groups_limit k

-- A low group before the groups that follow it. 9: these are 0, so that the number is not in its shortest form.
abbrev pub with_low : ℕ → ℕ → Number → Number
with_low start low (Ok (v, next)) = cond (eqb v 0) (refused 9 start) (Ok (low + 128 * v, next))
with_low start low (Err r) = Err r

-- At most k groups from an offset on, of a number that begins at `start`. 8: the bytes run out, and the place is how many
-- there are. 9, at the number's start: the last byte that it may have has its top bit set.
unfoldable pub groups_at : List ℕ → ℕ → ℕ → ℕ → Number
groups_at s start zero at = refused 9 start
groups_at s start (suc k) at =
    cond (leb (length s) at) (refused 8 (length s))
    (cond (ltb (get_or s at 0) 128) (Ok (get_or s at 0, at + 1))
    (with_low start (get_or s at 0 - 128) (groups_at s start k (at + 1))))

-- the number at an offset
abbrev pub number_at : List ℕ → ℕ → Number
number_at s at = groups_at s at most_groups at

-- the bytes of a number of at most k groups, and of one of at most three
unfoldable pub groups_of : ℕ → ℕ → List ℕ
groups_of zero v = []
groups_of (suc k) v = cond (ltb v 128) (v ∷ []) ((128 + v % 128) ∷ groups_of k (v / 128))

unfoldable pub bytes_of : ℕ → List ℕ
bytes_of v = groups_of most_groups v

-- what a number's answer leads to: its value and the offset after it go on, a refusal is passed on
abbrev pub read_or : {A : Type 0} → Number → (ℕ → ℕ → A) → (Refusal → A) → A
read_or (Ok (v, next)) f g = f v next
read_or (Err r) f g = g r

-- a number that is below a limit where it is read
abbrev pub Below : ℕ → Number → Type 0
Below limit (Ok (v, next)) = v < limit
Below limit (Err r) = Unit {0}

-- 1 at N and M: outside 1 to 30; place is the number's start
unfoldable pub size_at : List ℕ → ℕ → Number
size_at s at = read_or (number_at s at) (λ v next. cond (size v) (Ok (v, next)) (refused 1 at)) Err
