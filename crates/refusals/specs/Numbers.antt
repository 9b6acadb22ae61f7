-- docs/RULES.md: the number of each reason, and what a call that may refuse tells.
use Rattle.std.specs.Prelude.{ℕ, Bool, true, false, Result, Ok, Err}
use Rattle.refusals.specs.declared.Refusal.{Refusal}
use Rattle.refusals.specs.declared.Refusal.TheVariants as reasons

abbrev pub number_of : Refusal → ℕ
number_of reasons.FewWords = 1
number_of reasons.Size = 2
number_of reasons.Length = 3
number_of reasons.Coefficient = 4
number_of reasons.Kind = 5
number_of reasons.Limit = 6
number_of reasons.ShortRoom = 7
number_of reasons.BlankRow = 10
number_of reasons.FewTimeWords = 11
number_of reasons.TimeSize = 12
number_of reasons.TimeLength = 13
number_of reasons.Vertex = 14
number_of reasons.StrictWord = 15
number_of reasons.RowLength = 16
number_of reasons.ShortTimeRoom = 17
number_of reasons.ByteCount = 30
number_of reasons.Edition = 31
number_of reasons.BodyCount = 32
number_of reasons.ShortHead = 33
number_of reasons.BodyPlace = 34
number_of reasons.BodyTotal = 35
number_of reasons.ShortFileRoom = 36
number_of reasons.NoVariable = 41
number_of reasons.NoLimit = 42
number_of reasons.OnAlready = 43
number_of reasons.OffAlready = 44
number_of reasons.TraceLength = 51
number_of reasons.Token = 60

-- 0 where nothing is refused, whatever is told beside it
abbrev pub told_by : {A : Type 0} → Result A Refusal → ℕ
told_by (Ok _) = 0
told_by (Err refusal) = number_of refusal

abbrev pub number_told : Result Unit Refusal → ℕ
number_told = told_by

-- of a checker: 8 accepted, 9 not
abbrev pub verdict_told : Result Bool Refusal → ℕ
verdict_told (Ok true) = 8
verdict_told (Ok false) = 9
verdict_told (Err refusal) = number_of refusal
