-- What a call has to answer, and what the sinks then take.
use Rattle.std.specs.Prelude.{◌≡◌, ℕ, ◌<◌, ◌⊎◌, List, length, take, Option, Some, IfSome, IsSomeAnd}
use Rattle.outside_io.specs.Outside.{Files, Rose, Takes}
use Rattle.pyi_write.specs.Layout.{stub_text}
use Rattle.py_infer.specs.declared.answer.Answer.{Answer}
use Rattle.py_infer.specs.declared.status.Status.{Status as Ending}
use Rattle.py_infer.specs.declared.status.Status.TheVariants as status
use Rattle.py_infer.specs.Answers.{usage, unread, refused, clean}
use Rattle.py_infer.specs.Lines.{Line, Value, values_after, Belongs}
use Rattle.py_infer.specs.Modules.{IsModule}
use Rattle.py_infer.specs.Reports.{Refuses}
use Rattle.py_infer.specs.Stubs.{Rows, AreRowsOf, stub_of, type_in}
use Rattle.py_infer.specs.Words.{Accepts, IsUnaccepted}

-- the file of this name is held, and is a plain module with these lines
abbrev pub HoldsModule : Files → List ℕ → List Line → Type 0
HoldsModule files file lines = IsSomeAnd (files file) (λ bytes. IsModule bytes lines)

-- the file of this name is held, and is refused with this report
abbrev pub HoldsRefused : Files → List ℕ → List ℕ → Type 0
HoldsRefused files file report = IsSomeAnd (files file) (λ bytes. Refuses bytes report)

-- The file couldn't be read in this call, as the shelf tells.
abbrev pub IsUnread : ℕ → ℕ → Option (List ℕ) → List ℕ → Type 0
IsUnread before after last file = Rose before after × (last ≡ Some file)

-- What a call has to answer for these words, where the shelf told these files, if it tells any, its count of faults was `before`
-- at the beginning and is `after` at the end, and `last` is the last name that it failed to fetch.
pub data IsAsked (words : List (List ℕ)) (held : Option Files) (before after : ℕ) (last : Option (List ℕ)) (answer : Answer) : Type 0 where
  -- The words aren't accepted.
  for_usage : IsUnaccepted words → answer ≡ usage → IsAsked words held before after last answer
  -- The file couldn't be read.
  for_unread : (file : List ℕ) → Accepts words file → IsUnread before after last file → answer ≡ unread file → IsAsked words held before after last answer
  -- The file is refused with this report.
  for_refused : (file report : List ℕ) → Accepts words file → IfSome held (λ files. HoldsRefused files file report) → answer ≡ refused file report → IsAsked words held before after last answer
  -- The file is a plain module, and this is its stub.
  for_clean : (file : List ℕ) (lines : List Line) (rows : Rows) → Accepts words file → IfSome held (λ files. HoldsModule files file lines) →
      AreRowsOf lines rows → answer ≡ clean (stub_text (stub_of rows)) → IsAsked words held before after last answer

-- A sink before a call and after it: what it had taken, and how often it had failed.
pub record Seen : Type 0 where
  pub old : Option (List ℕ)
  pub new : Option (List ℕ)
  pub before : ℕ
  pub after : ℕ

-- a sink that had taken `old` and failed `before` times at first, and `new` and `after` times at the end
abbrev pub seen : Option (List ℕ) → Option (List ℕ) → ℕ → ℕ → Seen
seen old new before after = record { old = old; new = new; before = before; after = after }

-- the sink took this text, and nothing else
abbrev pub Took : Seen → List ℕ → Type 0
Took sink text = Takes sink.old sink.new text

-- the sink took nothing
abbrev pub TookNothing : Seen → Type 0
TookNothing sink = sink.new ≡ sink.old

-- The sink took less than the text, a prefix of it, and its count of faults rose.
pub record FellShort (sink : Seen) (text : List ℕ) : Type 0 where
  pub done : ℕ
  pub less : done < length text
  pub front : Took sink (take done text)
  pub failed : Rose sink.before sink.after

-- Both texts of the answer were taken.
abbrev pub AreTaken : Answer → Seen → Seen → Type 0
AreTaken answer out note = Took out answer.out × Took note answer.note

-- A sink fell short: the first, and then the second took nothing, or the second after the first took its whole text.
abbrev pub AreCut : Answer → Seen → Seen → Type 0
AreCut answer out note = (FellShort out answer.out × TookNothing note) ⊎ (Took out answer.out × FellShort note answer.note)

-- What becomes of an answer: its texts are taken and it ends the call, or a sink falls short.
abbrev pub IsDelivered : Answer → Seen → Seen → Ending → Type 0
IsDelivered answer out note ending = (AreTaken answer out note × (ending ≡ answer.status)) ⊎ (AreCut answer out note × (ending ≡ status.WriteFault))

-- The call was cut off: a sink fell short, or memory ran out.
abbrev pub IsCut : Ending → Type 0
IsCut ending = (ending ≡ status.WriteFault) ⊎ (ending ≡ status.Memory)

-- Each name's value after the lines belongs to the type that the stub prints for it.
abbrev pub AreCovered : List Line → Rows → Type 0
AreCovered lines rows = (n : List ℕ) (value : Value) → values_after lines n ≡ Some value → IsSomeAnd (type_in rows n) (Belongs value)
