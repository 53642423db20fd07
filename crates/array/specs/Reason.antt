-- Documents 01, "Numbers returned", and 02: the numbers of the reasons for a refusal. Assumes nothing.
use Rattle.std.specs.Prelude.{ℕ, List, [], ◌∷◌, get_or}
use Rattle.array.specs.declared.Reason.{Reason}
use Rattle.array.specs.declared.Reason.TheVariants.{Unknown, Size, BufferLength, Mark, Direction, NotOpen, Meeting, NearMiss}
use Rattle.array.specs.declared.Reason.TheVariants.{FileEnds, NumberForm, RecordPlace, Repeated, Trailing, RecordDirection, Room}
use Rattle.array.specs.declared.Reason.TheVariants.{NoSuchLink, SwitchByte, TrackEnds, FourthSwitch, RecordOrder, DeadPlace, Trials}
use Rattle.array.specs.declared.Reason.TheVariants.{NothingNew, InUseOrDead, NoDirection}

-- the reasons in the order of their numbers, from 0 on
abbrev pub reasons : List Reason
reasons =
    Unknown ∷ Size ∷ BufferLength ∷ Mark ∷ Direction ∷ NotOpen ∷ Meeting ∷ NearMiss ∷ FileEnds ∷ NumberForm ∷ RecordPlace ∷
    Repeated ∷ Trailing ∷ RecordDirection ∷ Room ∷ NoSuchLink ∷ SwitchByte ∷ TrackEnds ∷ FourthSwitch ∷ RecordOrder ∷
    DeadPlace ∷ Trials ∷ NothingNew ∷ InUseOrDead ∷ NoDirection ∷ []

abbrev pub number_of : Reason → ℕ
number_of Unknown = 0
number_of Size = 1
number_of BufferLength = 2
number_of Mark = 3
number_of Direction = 4
number_of NotOpen = 5
number_of Meeting = 6
number_of NearMiss = 7
number_of FileEnds = 8
number_of NumberForm = 9
number_of RecordPlace = 10
number_of Repeated = 11
number_of Trailing = 12
number_of RecordDirection = 13
number_of Room = 14
number_of NoSuchLink = 15
number_of SwitchByte = 16
number_of TrackEnds = 17
number_of FourthSwitch = 18
number_of RecordOrder = 19
number_of DeadPlace = 20
number_of Trials = 21
number_of NothingNew = 22
number_of InUseOrDead = 23
number_of NoDirection = 24

-- the reason that has a number
abbrev pub reason_of : ℕ → Reason
reason_of k = get_or reasons k Unknown
