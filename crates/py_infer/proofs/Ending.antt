-- How a call ends, by what it asks for.
use Rattle.std.proofs.Common.{◌≡◌, ℕ, ◌⊎◌, inl, inr, List, [], ◌∷◌, codes, Option, Some, None, IfSome, IsSomeAnd, sym, ap, ◌∙◌, subst}
use Rattle.outside_io.specs.Outside.{Files, Rose}
use Rattle.py_descent.specs.Laws.{IsComplete}
use Rattle.py_infer.specs.declared.answer.Answer.{Answer}
use Rattle.py_infer.specs.declared.status.Status.{Status as Ending}
use Rattle.py_infer.specs.declared.status.Status.TheVariants as status
use Rattle.py_infer.specs.Lines.{Line}
use Rattle.py_infer.specs.Outputs.{Seen, HoldsModule, HoldsRefused, IsUnread, IsAsked, for_usage, for_unread, for_refused, for_clean, IsDelivered, AreCut, IsCut}
use Rattle.py_infer.specs.Words.{Accepts}
use Rattle.py_infer.proofs.Refusing.{OneReading, NeverBoth, holds_one}

-- the words name one file
one_file : (words : List (List ℕ)) (file other : List ℕ) → Accepts words file → Accepts words other → file ≡ other
one_file words file other is also = let both : codes "infer" ∷ file ∷ [] ≡ codes "infer" ∷ other ∷ [] = sym is.words_are ∙ also.words_are in cc

module _ (one_reading : OneReading) (never_both : NeverBoth) (complete : IsComplete) (words : List (List ℕ)) (before after : ℕ) (last : Option (List ℕ)) (answer : Answer) (out note : Seen) (ending : Ending) where
  ends_so : (state : Ending) → answer.status ≡ state → IsDelivered answer out note ending → (ending ≡ state) ⊎ (AreCut answer out note × (ending ≡ status.WriteFault))
  ends_so state same (inl (taken, ends)) = inl (ends ∙ same)
  ends_so state same (inr (cut, ends)) = inr (cut, ends)

  holds_both : (held : Option Files) (file other report : List ℕ) (lines : List Line) → file ≡ other → IsSomeAnd held (λ files. HoldsRefused files file report) → IfSome held (λ files. HoldsModule files other lines) → ⊥
  holds_both None file other report lines same refuses holds = refuses
  holds_both (Some files) file other report lines same refuses holds =
      holds_one one_reading never_both complete files other report lines (subst (λ f. HoldsRefused files f report) same refuses) holds

  both_hold : (held : Option Files) (file other report : List ℕ) (lines : List Line) → file ≡ other → IfSome held (λ files. HoldsRefused files file report) → IsSomeAnd held (λ files. HoldsModule files other lines) → ⊥
  both_hold None file other report lines same refuses holds = holds
  both_hold (Some files) file other report lines same refuses holds =
      holds_one one_reading never_both complete files other report lines (subst (λ f. HoldsRefused files f report) same refuses) holds

  refused_end : (ending ≡ status.Refused) ⊎ (AreCut answer out note × (ending ≡ status.WriteFault)) → (ending ≡ status.Refused) ⊎ ((ending ≡ status.ReadFault) ⊎ IsCut ending)
  refused_end (inl is) = inl is
  refused_end (inr (cut, is)) = inr (inr (inl is))

  read_end : (first : Ending) → (ending ≡ status.ReadFault) ⊎ (AreCut answer out note × (ending ≡ status.WriteFault)) → (ending ≡ first) ⊎ ((ending ≡ status.ReadFault) ⊎ IsCut ending)
  read_end first (inl is) = inr (inl is)
  read_end first (inr (cut, is)) = inr (inr (inl is))

  clean_end : (ending ≡ status.Clean) ⊎ (AreCut answer out note × (ending ≡ status.WriteFault)) → (ending ≡ status.Clean) ⊎ ((ending ≡ status.ReadFault) ⊎ IsCut ending)
  clean_end (inl is) = inl is
  clean_end (inr (cut, is)) = inr (inr (inl is))

  -- a file that is refused is reported
  pub refused_ends : (held : Option Files) → IsAsked words held before after last answer → IsDelivered answer out note ending → (file report : List ℕ) → Accepts words file →
      IsSomeAnd held (λ files. HoldsRefused files file report) → (ending ≡ status.Refused) ⊎ ((ending ≡ status.ReadFault) ⊎ IsCut ending)
  refused_ends held (for_usage none same) delivered file report accepts refuses = absurd (none file accepts)
  refused_ends held (for_unread other also unread same) delivered file report accepts refuses = read_end status.Refused (ends_so status.ReadFault (ap (λ (a : Answer). a.status) same) delivered)
  refused_ends held (for_refused other said also holds same) delivered file report accepts refuses = refused_end (ends_so status.Refused (ap (λ (a : Answer). a.status) same) delivered)
  refused_ends held (for_clean other lines rows also holds are same) delivered file report accepts refuses =
      absurd (holds_both held file other report lines (one_file words file other accepts also) refuses holds)

  -- a plain module is answered
  pub clean_ends : (held : Option Files) → IsAsked words held before after last answer → IsDelivered answer out note ending → (file : List ℕ) (lines : List Line) → Accepts words file →
      IsSomeAnd held (λ files. HoldsModule files file lines) → (ending ≡ status.Clean) ⊎ ((ending ≡ status.ReadFault) ⊎ IsCut ending)
  clean_ends held (for_usage none same) delivered file lines accepts is = absurd (none file accepts)
  clean_ends held (for_unread other also unread same) delivered file lines accepts is = read_end status.Clean (ends_so status.ReadFault (ap (λ (a : Answer). a.status) same) delivered)
  clean_ends held (for_refused other report also refuses same) delivered file lines accepts is =
      absurd (both_hold held other file report lines (one_file words other file also accepts) refuses is)
  clean_ends held (for_clean other more rows also holds are same) delivered file lines accepts is = clean_end (ends_so status.Clean (ap (λ (a : Answer). a.status) same) delivered)

  whole_end : ¬ (Rose out.before out.after) → ¬ (Rose note.before note.after) → (ending ≡ status.Clean) ⊎ (AreCut answer out note × (ending ≡ status.WriteFault)) → (ending ≡ status.Clean) ⊎ (ending ≡ status.Memory)
  whole_end first second (inl is) = inl is
  whole_end first second (inr (inl (fell, nothing), is)) = absurd (first fell.failed)
  whole_end first second (inr (inr (took, fell), is)) = absurd (second fell.failed)

  -- and so it is where nothing fails
  pub complete_ends : (held : Option Files) → IsAsked words held before after last answer → IsDelivered answer out note ending → (file : List ℕ) (lines : List Line) → Accepts words file →
      IsSomeAnd held (λ files. HoldsModule files file lines) → ¬ (IsUnread before after last file) → ¬ (Rose out.before out.after) → ¬ (Rose note.before note.after) → (ending ≡ status.Clean) ⊎ (ending ≡ status.Memory)
  complete_ends held (for_usage none same) delivered file lines accepts is read first second = absurd (none file accepts)
  complete_ends held (for_unread other also unread same) delivered file lines accepts is read first second = absurd (read (subst (IsUnread before after last) (one_file words other file also accepts) unread))
  complete_ends held (for_refused other report also refuses same) delivered file lines accepts is read first second =
      absurd (both_hold held other file report lines (one_file words other file also accepts) refuses is)
  complete_ends held (for_clean other more rows also holds are same) delivered file lines accepts is read first second =
      whole_end first second (ends_so status.Clean (ap (λ (a : Answer). a.status) same) delivered)
