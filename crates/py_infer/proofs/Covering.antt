-- The values that names hold belong to the types that the stub prints.
use Rattle.std.proofs.Common.{◌≡◌, ℕ, Bool, true, false, cond, inl, inr, List, [], ◌∷◌, Option, Some, None, IfSome, IsSomeAnd, refl, sym, ap, ◌∙◌, subst}
use Rattle.std.specs.Str.{bytes_eq}
use Rattle.std.proofs.lemmas.List.{append-nil}
use Rattle.std.proofs.lemmas.Option.{IfSome_then}
use Rattle.outside_io.specs.Outside.{Files, Takes}
use Rattle.pyi_write.specs.Layout.{stub_text}
use Rattle.py_infer.specs.declared.answer.Answer.{Answer}
use Rattle.py_infer.specs.declared.plain_type.PlainType.{PlainType}
use Rattle.py_infer.specs.declared.status.Status.{Status as Ending}
use Rattle.py_infer.specs.declared.status.Status.TheVariants as status
use Rattle.py_infer.specs.Answers.{clean, refused}
use Rattle.py_infer.specs.Lines.{Value, nothing, truth, number, fraction, text, octets, Expression, literal, name, Line, Held, meaning, assigned, carried, nothing_held, type_of, Belongs}
use Rattle.py_infer.specs.Outputs.{Seen, AreTaken, HoldsModule, HoldsRefused, IsAsked, for_usage, for_unread, for_refused, for_clean, IsDelivered, AreCovered}
use Rattle.py_infer.specs.Stubs.{Rows, stub_of, AreRowsOf}
use Rattle.py_infer.specs.Words.{Accepts}

-- a value belongs to its own type
belongs_type : (v : Value) → Belongs v (type_of v)
belongs_type nothing = refl
belongs_type (truth b) = (b, refl)
belongs_type (number n) = inl (n, refl)
belongs_type fraction = refl
belongs_type (text empty) = (empty, refl)
belongs_type (octets empty) = (empty, refl)

-- each value that is held belongs to the type that is held for its name
abbrev Related : Option Value → Option PlainType → Type 0
Related v t = (value : Value) → v ≡ Some value → IsSomeAnd t (Belongs value)

related_meaning : (values : Held Value) (types : Held PlainType) → ((n : List ℕ) → Related (values n) (types n)) → (e : Expression) → Related (meaning (λ v. v) values e) (meaning type_of types e)
related_meaning values types related (literal v) value is = let same : v ≡ value = cc in subst (λ w. Belongs w (type_of v)) same (belongs_type v)
related_meaning values types related (name n) value is = related n value is

related_assigned : (values : Held Value) (types : Held PlainType) → ((n : List ℕ) → Related (values n) (types n)) → (line : Line) (n : List ℕ) → Related (assigned (λ v. v) values line n) (assigned type_of types line n)
related_assigned values types related line n = by_test (bytes_eq line.target n)
  where
    by_test : (b : Bool) → Related (cond b (meaning (λ v. v) values line.value) (values n)) (cond b (meaning type_of types line.value) (types n))
    by_test true = related_meaning values types related line.value
    by_test false = related n

related_carried : (values : Held Value) (types : Held PlainType) → ((n : List ℕ) → Related (values n) (types n)) → (lines : List Line) (n : List ℕ) → Related (carried (λ v. v) values lines n) (carried type_of types lines n)
related_carried values types related [] n = related n
related_carried values types related (line ∷ lines) n =
    related_carried (assigned (λ v. v) values line) (assigned type_of types line) (related_assigned values types related line) lines n

none_related : (n : List ℕ) → Related None (nothing_held {A = PlainType} n)
none_related n value is = absurd (cc)

-- the rows of the lines cover the values after them
rows_cover : (lines : List Line) (rows : Rows) → AreRowsOf lines rows → AreCovered lines rows
rows_cover lines rows are n value is =
    subst (λ t. IsSomeAnd t (Belongs value)) (sym (are.exact n)) (related_carried nothing_held nothing_held none_related lines n value is)

-- a sink that took no bytes is as before
took_none : (old new : Option (List ℕ)) → Takes old new [] → new ≡ old
took_none None new took = took
took_none (Some taken) new took = took ∙ ap Some (append-nil taken)

module _ (words : List (List ℕ)) (before after : ℕ) (last : Option (List ℕ)) (answer : Answer) (out note : Seen) (ending : Ending) where
  abbrev Written : Files → Type 0
  Written files = (file : List ℕ) × (lines : List Line) × (rows : Rows) × Accepts words file × HoldsModule files file lines × Takes out.old out.new (stub_text (stub_of rows)) × AreCovered lines rows

  taken : (held : Option Files) → IsAsked words held before after last answer → IsDelivered answer out note ending → ending ≡ status.Clean → (stub : List ℕ) → answer ≡ clean stub → Takes out.old out.new stub
  taken held asked (inl (took, ends)) is stub same = subst (λ t. Takes out.old out.new t) (ap (λ (a : Answer). a.out) same) took.0
  taken held asked (inr (cut, ends)) is stub same = let both : status.WriteFault ≡ status.Clean = sym ends ∙ is in absurd (cc)

  other : (held : Option Files) (state : Ending) → IsDelivered answer out note ending → ending ≡ status.Clean → answer.status ≡ state → (state ≡ status.Clean → ⊥) → ⊥
  other held state (inl (took, ends)) is same no_clean = no_clean (sym same ∙ sym ends ∙ is)
  other held state (inr (cut, ends)) is same no_clean = let both : status.WriteFault ≡ status.Clean = sym ends ∙ is in absurd (cc)

  -- a clean call wrote a stub that covers the values
  pub clean_covers : (held : Option Files) → IsAsked words held before after last answer → IsDelivered answer out note ending → ending ≡ status.Clean → IfSome held Written
  clean_covers held (for_usage none same) delivered is = absurd (other held status.Usage delivered is (ap (λ (a : Answer). a.status) same) (λ h. cc))
  clean_covers held (for_unread file accepts unread same) delivered is = absurd (other held status.ReadFault delivered is (ap (λ (a : Answer). a.status) same) (λ h. cc))
  clean_covers held (for_refused file report accepts holds same) delivered is = absurd (other held status.Refused delivered is (ap (λ (a : Answer). a.status) same) (λ h. cc))
  clean_covers held (for_clean file lines rows accepts holds are same) delivered is =
      IfSome_then held holds
      (λ files h. (file, lines, rows, accepts, h, taken held (for_clean file lines rows accepts holds are same) delivered is (stub_text (stub_of rows)) same, rows_cover lines rows are))

  -- the call ended otherwise than it asked for
  unlike : (wanted state : Ending) → IsDelivered answer out note ending → ending ≡ wanted → answer.status ≡ state → (state ≡ wanted → ⊥) → (status.WriteFault ≡ wanted → ⊥) → ⊥
  unlike wanted state (inl (took, ends)) is same apart cut = apart (sym same ∙ sym ends ∙ is)
  unlike wanted state (inr (short, ends)) is same apart cut = cut (sym ends ∙ is)

  both_taken : (wanted : Ending) (said : Answer) → IsDelivered answer out note ending → ending ≡ wanted → (status.WriteFault ≡ wanted → ⊥) → answer ≡ said → AreTaken said out note
  both_taken wanted said (inl (took, ends)) is cut same = subst (λ a. AreTaken a out note) same took
  both_taken wanted said (inr (short, ends)) is cut same = absurd (cut (sym ends ∙ is))

  -- a call that refused put the report of the file
  pub refused_says : (held : Option Files) → IsAsked words held before after last answer → IsDelivered answer out note ending → ending ≡ status.Refused →
      (file report : List ℕ) × Accepts words file × IfSome held (λ files. HoldsRefused files file report) × (out.new ≡ out.old) × Takes note.old note.new (refused file report).note
  refused_says held (for_usage none same) delivered is = absurd (unlike status.Refused status.Usage delivered is (ap (λ (a : Answer). a.status) same) (λ h. cc) (λ h. cc))
  refused_says held (for_unread file accepts unread same) delivered is = absurd (unlike status.Refused status.ReadFault delivered is (ap (λ (a : Answer). a.status) same) (λ h. cc) (λ h. cc))
  refused_says held (for_refused file report accepts holds same) delivered is =
      let took = both_taken status.Refused (refused file report) delivered is (λ h. cc) same in
      (file, report, accepts, holds, took_none out.old out.new took.0, took.1)
  refused_says held (for_clean file lines rows accepts holds are same) delivered is = absurd (unlike status.Refused status.Clean delivered is (ap (λ (a : Answer). a.status) same) (λ h. cc) (λ h. cc))

  -- a clean call put the stub of the module's lines
  pub clean_says : (held : Option Files) → IsAsked words held before after last answer → IsDelivered answer out note ending → ending ≡ status.Clean →
      (file : List ℕ) × (lines : List Line) × (rows : Rows) × Accepts words file × IfSome held (λ files. HoldsModule files file lines) × AreRowsOf lines rows × Takes out.old out.new (stub_text (stub_of rows)) × (note.new ≡ note.old)
  clean_says held (for_usage none same) delivered is = absurd (unlike status.Clean status.Usage delivered is (ap (λ (a : Answer). a.status) same) (λ h. cc) (λ h. cc))
  clean_says held (for_unread file accepts unread same) delivered is = absurd (unlike status.Clean status.ReadFault delivered is (ap (λ (a : Answer). a.status) same) (λ h. cc) (λ h. cc))
  clean_says held (for_refused file report accepts holds same) delivered is = absurd (unlike status.Clean status.Refused delivered is (ap (λ (a : Answer). a.status) same) (λ h. cc) (λ h. cc))
  clean_says held (for_clean file lines rows accepts holds are same) delivered is =
      let took = both_taken status.Clean (clean (stub_text (stub_of rows))) delivered is (λ h. cc) same in
      (file, lines, rows, accepts, holds, are, took.0, took_none note.old note.new took.1)
