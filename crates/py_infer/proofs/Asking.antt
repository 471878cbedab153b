-- What the shelf's answer asks for.
use Rattle.std.proofs.Common.{◌≡◌, ℕ, ◌<◌, List, Option, Some, None, IfOk, IfSome, IsSomeAnd, Result, Vec, Global, length, codes, sym, ap, ◌∙◌, subst}
use Rattle.std.proofs.lemmas.Option.{IfSome_then}
use Rattle.std.proofs.lemmas.Result.{IfOk-weaker}
use Rattle.outside_io.specs.Outside.{Files, Gives}
use Rattle.outside_io.specs.declared.shelf.Fetched.TheVariants.{Whole, TooLong}
use Rattle.py_infer.specs.declared.answer.Answer.{Answer}
use Rattle.py_infer.specs.Answers.{unread, refused, clean}
use Rattle.py_infer.specs.Judging.{IsStubOf}
use Rattle.py_infer.specs.Modules.{IsModule}
use Rattle.py_infer.specs.Outputs.{IsUnread, IsAsked, for_unread, for_refused, for_clean}
use Rattle.py_infer.specs.Reports.{Refuses, for_length, whole_report}
use Rattle.py_infer.specs.Words.{Accepts}

some_more : {X : Type 0} (o : Option X) (P Q : X → Type 0) → ((x : X) → P x → Q x) → IsSomeAnd o P → IsSomeAnd o Q
some_more None P Q more h = h
some_more (Some x) P Q more h = more x h

module _ (words : List (List ℕ)) (held : Option Files) (before after : ℕ) (last : Option (List ℕ)) (file : List ℕ) (accepts : Accepts words file) where
  abbrev Asked : Answer → Type 0
  Asked = IsAsked words held before after last

  -- what holds of the bytes that are given whole holds of the file
  told : (P : List ℕ → Type 0) (given : Vec ℕ Global) (bytes : List ℕ) → bytes ≡ given.items → P bytes → IfSome held (λ files. Gives files file 262144 (Whole given)) → IfSome held (λ files. IsSomeAnd (files file) P)
  told P given bytes same p h =
      IfSome_then held h (λ files g. subst (λ f. IsSomeAnd f P) (sym g.0) (subst P same p))

  pub asks_clean : (given : Vec ℕ Global) (bytes stub : List ℕ) (answer : Answer) → bytes ≡ given.items → IsStubOf bytes stub → IfSome held (λ files. Gives files file 262144 (Whole given)) → answer ≡ clean stub → Asked answer
  asks_clean given bytes stub answer same is h answered =
      for_clean file is.lines is.rows accepts (told (λ b. IsModule b is.lines) given bytes same is.module_is h) is.rows_are (answered ∙ ap clean is.text)

  pub asks_refused : {E : Type 0} (given : Vec ℕ Global) (bytes report : List ℕ) (r : Result Answer E) → bytes ≡ given.items → Refuses bytes report → IfSome held (λ files. Gives files file 262144 (Whole given)) → IfOk r (λ a. a ≡ refused file report) → IfOk r Asked
  asks_refused given bytes report r same refuses h answered =
      IfOk-weaker r (λ a. a ≡ refused file report) Asked (λ a is. for_refused file report accepts (told (λ b. Refuses b report) given bytes same refuses h) is) answered

  pub asks_too_long : {E : Type 0} (report : List ℕ) (r : Result Answer E) → report ≡ whole_report (codes "too-long") → IfSome held (λ files. Gives files file 262144 TooLong) → IfOk r (λ a. a ≡ refused file report) → IfOk r Asked
  asks_too_long report r said h answered =
      IfOk-weaker r (λ a. a ≡ refused file report) Asked (λ a is. for_refused file report accepts
      (IfSome_then held h (λ files g. some_more (files file) (λ text. 262144 < length text) (λ b. Refuses b report) (λ b long. for_length long said) g)) is) answered

  pub asks_unread : {E : Type 0} (r : Result Answer E) → IsUnread before after last file → IfOk r (λ a. a ≡ unread file) → IfOk r Asked
  asks_unread r failed answered = IfOk-weaker r (λ a. a ≡ unread file) Asked (λ a is. for_unread file accepts failed is) answered
