-- What an answer says where it is known to be good, and whichever it is.
use Rattle.std.proofs.Common.{◌≡◌, Result, Ok, Err, Bool, true, false, IsTrue, IsOk, ◌⊎◌, inl, inr}
use Rattle.std.specs.Result.{OnOk, OnErr, IfOk, is_err, IsErrOf}

module _ {T E : Type 0} where
  pub good : (A : Type 0) (r : Result T E) → is_err r ≡ false → OnOk r A → A
  good A (Ok x) e a = a
  good A (Err x) e a = cc

  pub either : (A B : Type 0) (r : Result T E) → OnOk r A → OnErr r B → A ⊎ B
  either A B (Ok x) a b = inl a
  either A B (Err x) a b = inr b

  pub any_ok : (A : Type 0) (r : Result T E) → A → IfOk r (λ _. A)
  any_ok A (Ok x) a = a
  any_ok A (Err x) a = tt

  pub no_full : (x : T) (e : E) → IsErrOf (Ok x) e → ⊥
  no_full x e h = cc

  pub mapped : (P Q : T → Type 0) → ((x : T) → P x → Q x) → (r : Result T E) → IfOk r P → IfOk r Q
  mapped P Q f (Ok x) h = f x h
  mapped P Q f (Err x) h = tt

  pub so_ok : (A B : Type 0) → (A → B) → (r : Result T E) → OnOk r A → OnOk r B
  so_ok A B f (Ok x) h = f h
  so_ok A B f (Err x) h = tt

  pub ok_then : (A : Type 0) (r : Result T E) → IsOk r → IfOk r (λ _. A) → A
  ok_then A (Ok x) e h = h
  ok_then A (Err x) e h = cc

pub not_so : {A : Type 0} (r : Bool) → r ≡ false → (A → IsTrue r) → A → ⊥
not_so true e f a = cc
not_so false e f a = let t : false ≡ true = f a in cc
