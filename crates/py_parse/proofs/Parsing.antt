-- What the run of a module's program says of its tokens.
use Rattle.std.proofs.Common.{Result, Ok, Err, IfOk, IfErr, ◌≡◌, ℕ, zero, suc, ◌+◌, ◌≤◌, Bool, true, false, if◌then◌else◌, List, [], ◌∷◌, length, take, slice_get, Option, Some, None, refl, sym, ap, ◌∙◌, subst, arith, add-one}
use Rattle.std.specs.Option.{is_some}
use Rattle.std.proofs.lemmas.List.{take_all}
use Rattle.std.proofs.lemmas.Option.{slice_get_past}
use Rattle.py_tokens.specs.declared.token.Token.{Token}
use Rattle.py_tokens.specs.declared.token.TokenKind.{TokenKind}
use Rattle.py_tokens.specs.declared.token.TokenKind.TheVariants as kind
use Rattle.py_tokens.specs.TokenList.{TokenList}
use Rattle.py_grammar.specs.Cursor.{Cursor, next, kind_in, past}
use Rattle.py_grammar.specs.Modules.{start, IsModuleOf}
use Rattle.py_tree.specs.Tree.{Stmts, no_stmts, Module}
use Rattle.py_descent.specs.Codes.{end, at}
use Rattle.py_descent.specs.Descent.{descent}
use Rattle.py_descent.specs.Goals.{statements}
use Rattle.py_descent.specs.Programs.{Answer, gives, refuses, bind}
use Rattle.py_descent.proofs.Modules.{descent_is_sound, descent_is_complete}
use Rattle.py_descent.proofs.Seeing.{at_is, at_end}
use Rattle.py_tree.specs.declared.module.Module as rust_module
use Rattle.py_grammar.specs.Nesting.{IsTooDeep}
use Rattle.py_tree.specs.View.{module_view}
use Rattle.py_parse.specs.declared.fault.ParseFault.{ParseFault}
use Rattle.py_parse.specs.declared.fault.ParseFault.TheVariants.{Unexpected, OutOfProfile, TooDeep, Memory}
use Rattle.py_parse.specs.Depths.{IsFirstDeep}
use Rattle.py_parse.specs.Gives.{Gives, run}
use Rattle.py_parse.specs.Parses.{whole_module, IsReading, IsAnswer, no_module, too_deep, IsCause, IsPlainAnswer, IsFinished}
use Rattle.py_parse.proofs.Depths.{never_deep}
use Rattle.py_parse.proofs.Keeps.{descent_keeps}

-- what is done behind the statements
abbrev last : Stmts → Option TokenKind → Cursor → Answer Stmts
last ss k d = if is_some k then refuses else gives ss (past d)

abbrev ended : Stmts → Cursor → Answer Stmts
ended ss d = if at end d then last ss (next (past d)) d else refuses

last_place : (ts : List Token) (p : ℕ) (k : TokenKind) → kind_in (slice_get ts p) ≡ Some k → kind_in (slice_get ts (suc p)) ≡ None → suc p ≡ length ts
last_place [] p k h none = absurd cc
last_place (x ∷ []) zero k h none = refl
last_place (x ∷ (y ∷ ys)) zero k h none = absurd cc
last_place (x ∷ xs) (suc p) k h none = ap suc (last_place xs p k h none)

-- END is the last token
at_last : (t : TokenList) (ss : Stmts) (d : Cursor) → descent (statements true no_stmts) (start t) ≡ gives ss d → at end d ≡ true → next (past d) ≡ None → d.place + 1 ≡ length t.tokens
at_last t ss d q is none =
    let none' : kind_in (slice_get d.tokens (suc d.place)) ≡ None = rw add-one at none in
    rw add-one (last_place d.tokens d.place kind.End (at_end d is) none' ∙ ap length ((descent_keeps (statements true no_stmts) (start t)).keeps ss d q))

by_last : (t : TokenList) (s ss : Stmts) (d e : Cursor) (k : Option TokenKind) → descent (statements true no_stmts) (start t) ≡ gives s d → at end d ≡ true → next (past d) ≡ k → last s k d ≡ gives ss e → IsModuleOf t (record { body = ss; names = t.names })
by_last t s ss d e None q is none h =
    let same : s ≡ ss = cc in
    subst (λ (z : Stmts). IsModuleOf t (record { body = z; names = t.names })) same (record { end = d; body = descent_is_sound t s d q; ends = at_end d is; whole = at_last t s d q is none; names = refl })
by_last t s ss d e (Some k) q is none h = absurd cc

by_end : (t : TokenList) (s ss : Stmts) (d e : Cursor) (z : Bool) → descent (statements true no_stmts) (start t) ≡ gives s d → at end d ≡ z → (if z then last s (next (past d)) d else refuses) ≡ gives ss e → IsModuleOf t (record { body = ss; names = t.names })
by_end t s ss d e true q is h = by_last t s ss d e (next (past d)) q is refl h
by_end t s ss d e false q is h = absurd cc

by_answer : (t : TokenList) (ss : Stmts) (e : Cursor) (x : Answer Stmts) → descent (statements true no_stmts) (start t) ≡ x → bind x ended ≡ gives ss e → IsModuleOf t (record { body = ss; names = t.names })
by_answer t ss e (gives s d) q h = by_end t s ss d e (at end d) q refl h
by_answer t ss e refuses q h = absurd cc

pub module_found : (t : TokenList) (ss : Stmts) (e : Cursor) → run whole_module (start t) ≡ gives ss e → IsModuleOf t (record { body = ss; names = t.names })
module_found t ss e h = by_answer t ss e (descent (statements true no_stmts) (start t)) refl h

nothing_behind : (t : TokenList) (m : Module) (h : IsModuleOf t m) → descent (statements true no_stmts) (start t) ≡ gives m.body h.end → next (past h.end) ≡ None
nothing_behind t m h q =
    let kept : length h.end.tokens ≡ length t.tokens = ap length ((descent_keeps (statements true no_stmts) (start t)).keeps m.body h.end q) in
    let whole : h.end.place + 1 ≡ length t.tokens = h.whole in
    let past_all : length h.end.tokens ≤ h.end.place + 1 = omega arith in
    ap kind_in (slice_get_past h.end.tokens (h.end.place + 1) past_all)

pub module_reads : (t : TokenList) (m : Module) (h : IsModuleOf t m) → run whole_module (start t) ≡ gives m.body (past h.end)
module_reads t m h =
    let q = descent_is_complete t m.body h.end h.body h.ends in
    ap (λ (z : Answer Stmts). bind z ended) q
    ∙ ap (λ (z : Bool). if z then last m.body (next (past h.end)) h.end else refuses) (at_is end h.end kind.End h.ends)
    ∙ ap (λ (k : Option TokenKind). last m.body k h.end) (nothing_behind t m h q)

-- a parser that looks at all tokens is at the start
pub at_start : (t : TokenList) (n : ℕ) → length t.tokens ≤ n →
    (let c : Cursor = record { tokens = take n t.tokens; names = t.names; place = 0; in_class = false; funs = 0; classes = 0; sites = 0 } in c) ≡ start t
at_start t n h = ap (λ (ts : List Token). let c : Cursor = record { tokens = ts; names = t.names; place = 0; in_class = false; funs = 0; classes = 0; sites = 0 } in c) (take_all n t.tokens h)

none_past : {A : Type 0} (xs : List A) (i : ℕ) → None ≡ slice_get xs i → length xs ≤ i
none_past [] i h = omega arith
none_past (x ∷ xs) zero h = absurd cc
none_past (x ∷ xs) (suc i) h = let rest : length xs ≤ i = none_past xs i h in omega arith

-- ---- The answer

-- what is promised of an answer
pub record IsAnswered (t : TokenList) (answer : Result rust_module.Module ParseFault) : Type 0 where
  pub read : IfOk answer (λ m. IsReading t (module_view m))
  pub whole : (m : Module) → IsReading t m → IsAnswer m answer
  pub refused : IfErr answer (λ fault. IsCause t fault)

pub memory_answered : (t : TokenList) → IsAnswered t (Err Memory)
memory_answered t = record { read = tt; whole = λ m h. tt; refused = tt }

deep_cause : (t : TokenList) (fault : ParseFault) → IsTooDeep t.tokens → IsCause t fault
deep_cause t (Unexpected span) deep = too_deep deep
deep_cause t (OutOfProfile form span) deep = too_deep deep
deep_cause t (TooDeep span) deep = deep
deep_cause t Memory deep = tt

pub deep_answered : (t : TokenList) (fault : ParseFault) → IsTooDeep t.tokens → IsAnswered t (Err fault)
deep_answered t fault deep = record { read = tt; whole = λ m h. absurd (h.shallow deep); refused = deep_cause t fault deep }

-- two readings are the same
same_module : (t : TokenList) (ss : Stmts) (e : Cursor) (m : Module) → run whole_module (start t) ≡ gives ss e → IsModuleOf t m → (let n : Module = record { body = ss; names = t.names } in n) ≡ m
same_module t ss e m g h =
    let both : gives ss e ≡ gives m.body (past h.end) = sym g ∙ module_reads t m h in
    let bodies : ss ≡ m.body = cc in
    ap (λ (z : Stmts). let n : Module = record { body = z; names = t.names } in n) bodies ∙ ap (λ (z : List (List ℕ)). let n : Module = record { body = m.body; names = z } in n) (sym h.names)

tree_answered : (t : TokenList) (ss : Stmts) (e : Cursor) (answer : Result rust_module.Module ParseFault) → (IsTooDeep t.tokens → ⊥) → run whole_module (start t) ≡ gives ss e → IsAnswer (record { body = ss; names = t.names }) answer → IsAnswered t answer
tree_answered t ss e (Ok tree) shallow g f = record {
  read = subst (λ (z : Module). IsReading t z) (sym f) (record { reads = module_found t ss e g; shallow = shallow });
  whole = λ m h. f ∙ same_module t ss e m g h.reads;
  refused = tt;
}
tree_answered t ss e (Err (Unexpected span)) shallow g f = absurd f
tree_answered t ss e (Err (OutOfProfile form span)) shallow g f = absurd f
tree_answered t ss e (Err (TooDeep span)) shallow g f = absurd f
tree_answered t ss e (Err Memory) shallow g f = memory_answered t

bars : (t : TokenList) → run whole_module (start t) ≡ refuses → (m : Module) → IsModuleOf t m → ⊥
bars t g m h = let both : gives m.body (past h.end) ≡ refuses = sym (module_reads t m h) ∙ g in cc

refusal_answered : (t : TokenList) (answer : Result rust_module.Module ParseFault) → run whole_module (start t) ≡ refuses → IsPlainAnswer answer → IsAnswered t answer
refusal_answered t (Ok tree) g f = absurd f
refusal_answered t (Err (Unexpected span)) g f = record { read = tt; whole = λ m h. absurd (bars t g m h.reads); refused = no_module (bars t g) }
refusal_answered t (Err (OutOfProfile form span)) g f = record { read = tt; whole = λ m h. absurd (bars t g m h.reads); refused = no_module (bars t g) }
refusal_answered t (Err (TooDeep span)) g f = absurd f
refusal_answered t (Err Memory) g f = absurd f

whole_answered : {A : Type 0} (view : A → Stmts) (t : TokenList) (read : Result A ParseFault) (e : Cursor) (answer : Result rust_module.Module ParseFault) → (IsTooDeep t.tokens → ⊥) → Gives view read e (run whole_module (start t)) → IsFinished view read t.names answer → IsAnswered t answer
whole_answered view t (Ok body) e answer shallow g f = tree_answered t (view body) e answer shallow g f
whole_answered view t (Err (Unexpected span)) e answer shallow g f = refusal_answered t answer g f
whole_answered view t (Err (OutOfProfile form span)) e answer shallow g f = refusal_answered t answer g f
whole_answered view t (Err (TooDeep span)) e answer shallow g f = refusal_answered t answer g f
whole_answered view t (Err Memory) e answer shallow g f = subst (λ (z : Result rust_module.Module ParseFault). IsAnswered t z) (sym f) (memory_answered t)

pub shallow_answered : {A : Type 0} (view : A → Stmts) (t : TokenList) (n : ℕ) (c : Cursor) (read : Result A ParseFault) (e : Cursor) (names : List (List ℕ)) (answer : Result rust_module.Module ParseFault) → IsFirstDeep t.tokens n → None ≡ slice_get t.tokens n →
    c ≡ record { tokens = take n t.tokens; names = t.names; place = 0; in_class = false; funs = 0; classes = 0; sites = 0 } → Gives view read e (run whole_module c) → names ≡ t.names → IsFinished view read names answer → IsAnswered t answer
shallow_answered view t n c read e names answer first none from g same f =
    let all : length t.tokens ≤ n = none_past t.tokens n none in
    whole_answered view t read e answer (never_deep t.tokens n first all)
    (subst (λ (z : Cursor). Gives view read e (run whole_module z)) (from ∙ at_start t n all) g)
    (subst (λ (z : List (List ℕ)). IsFinished view read z answer) same f)
