-- Code that grows by pieces, step by step.
use Rattle.std.proofs.Common.{◌≡◌, ℕ, ◌+◌, ◌<◌, arith, [], ◌∷◌, ◌++◌, length, refl, sym, ap, ◌∙◌, length-append, append_assoc, append-nil}
use Rattle.std.proofs.Math.ListN.{length-set}
use Rattle.std.proofs.Math.Seq.{set-append_seam}
use Rattle.stack_code.specs.declared.op.Op.{Op}
use Rattle.stack_code.specs.declared.op.Op.TheVariants.{Jump, JumpIfFalse}
use Rattle.tree_code.specs.Pieces.{Piece, Labels, instr, nothing, one, ◌⨾◌, ahead, over, past, fork}
use Rattle.expr_compile.specs.Emitted.{Emitted, with_piece, with_instr, with_aim}
use Rattle.expr_compile.specs.Growth.{Grows}

-- a piece has as many instructions as its size says
pub record Sized (a : Piece) : Type 0 where
  pub sized : (labels : Labels) (place : ℕ) → length (a.code labels place) ≡ a.size

pub sized_nothing : Sized nothing
sized_nothing = record { sized = λ labels place. refl }

pub sized_one : (op : Op) (line : ℕ) → Sized (one op line)
sized_one op line = record { sized = λ labels place. refl }

pub sized_ahead : (jump : ℕ → Op) (count line : ℕ) → Sized (ahead jump count line)
sized_ahead jump count line = record { sized = λ labels place. refl }

pub sized_then : (a b : Piece) → Sized a → Sized b → Sized (a ⨾ b)
sized_then a b p q = record { sized = λ labels place. length-append (a.code labels place) (b.code labels (place + a.size)) ∙ ap (λ n. n + length (b.code labels (place + a.size))) (p.sized labels place) ∙ ap (λ n. a.size + n) (q.sized labels (place + a.size)) }

pub with_then : (a b : Piece) (labels : Labels) (e : Emitted) → Sized a → with_piece (a ⨾ b) labels e ≡ with_piece b labels (with_piece a labels e)
with_then a b labels e s =
    let same : length (e.instrs ++ a.code labels (length e.instrs)) ≡ length e.instrs + a.size = length-append e.instrs (a.code labels (length e.instrs)) ∙ ap (λ k. length e.instrs + k) (s.sized labels (length e.instrs)) in
    rw (same, append_assoc, append_assoc)

pub with_nothing : (labels : Labels) (e : Emitted) → with_piece nothing labels e ≡ e
with_nothing labels e = simp append-nil

pub with_one : (op : Op) (line : ℕ) (labels : Labels) (e : Emitted) → with_piece (one op line) labels e ≡ with_instr op line e
with_one op line labels e = simp append-nil

pub with_over : (jump : ℕ → Op) (line : ℕ) (a : Piece) (labels : Labels) (e : Emitted) → Sized a →
    with_aim (length e.instrs) (jump (length (with_piece a labels (with_instr (jump 0) line e)).instrs)) line (with_piece a labels (with_instr (jump 0) line e)) ≡ with_piece (over jump line a) labels e
with_over jump line a labels e s =
    let here : length (e.instrs ++ instr (jump 0) line ∷ []) ≡ length e.instrs + 1 = length-append e.instrs (instr (jump 0) line ∷ []) in
    let there : length ((e.instrs ++ instr (jump 0) line ∷ []) ++ a.code labels (length e.instrs + 1)) ≡ length e.instrs + 1 + a.size =
    length-append (e.instrs ++ instr (jump 0) line ∷ []) (a.code labels (length e.instrs + 1)) ∙ ap (λ n. n + length (a.code labels (length e.instrs + 1))) here ∙ ap (λ n. length e.instrs + 1 + n) (s.sized labels (length e.instrs + 1)) in
    rw (here, there, append_assoc e.instrs (instr (jump 0) line ∷ []) (a.code labels (length e.instrs + 1)), set-append_seam e.instrs (instr (jump 0) line) (a.code labels (length e.instrs + 1)) (instr (jump (length e.instrs + 1 + a.size)) line))

-- the code of a jump ahead, with the place that it leads to
pub with_past : (line : ℕ) (a b : Piece) (labels : Labels) (e : Emitted) → Sized a → Sized b →
    with_aim (length (with_piece a labels e).instrs) (Jump (length (with_piece b labels (with_instr (Jump 0) line (with_piece a labels e))).instrs)) line (with_piece b labels (with_instr (Jump 0) line (with_piece a labels e))) ≡ with_piece (past line a b) labels e
with_past line a b labels e s t = with_over Jump line b labels (with_piece a labels e) t ∙ sym (with_then a (over Jump line b) labels e s)

-- as many instructions as there were and those of a piece
pub length_with : (a : Piece) (labels : Labels) (e : Emitted) → Sized a → length (with_piece a labels e).instrs ≡ length e.instrs + a.size
length_with a labels e s = length-append e.instrs (a.code labels (length e.instrs)) ∙ ap (λ n. length e.instrs + n) (s.sized labels (length e.instrs))

pub with_fork : (line : ℕ) (a b : Piece) (labels : Labels) (e e1 e2 e3 e4 e5 e6 : Emitted) → Sized a → Sized b →
    e1 ≡ with_instr (JumpIfFalse 0) line e → e2 ≡ with_piece a labels e1 → e3 ≡ with_instr (Jump 0) line e2 → e4 ≡ with_aim (length e.instrs) (JumpIfFalse (length e3.instrs)) line e3 →
    e5 ≡ with_piece b labels e4 → e6 ≡ with_aim (length e2.instrs) (Jump (length e5.instrs)) line e5 → e6 ≡ with_piece (fork line a b) labels e
with_fork line a b labels e e1 e2 e3 e4 e5 e6 s t h1 h2 h3 h4 h5 h6 =
    let test : Piece = ahead JumpIfFalse (a.size + 1) line in
    let then : Piece = a ⨾ one (Jump 0) line in
    let started : Emitted = with_piece test labels e in
    let front : Emitted = with_piece a labels started in
    let placed : e3 ≡ with_piece then labels (with_instr (JumpIfFalse 0) line e) =
    h3 ∙ ap (with_instr (Jump 0) line) h2 ∙ sym (with_one (Jump 0) line labels (with_piece a labels e1)) ∙ sym (with_then a (one (Jump 0) line) labels e1 s) ∙ ap (with_piece then labels) h1 in
    let sized : Sized then = sized_then a (one (Jump 0) line) s (sized_one (Jump 0) line) in
    let aimed : e4 ≡ with_piece (over JumpIfFalse line then) labels e = h4 ∙ ap (λ x. with_aim (length e.instrs) (JumpIfFalse (length x.instrs)) line x) placed ∙ with_over JumpIfFalse line then labels e sized in
    let again : e4 ≡ with_instr (Jump 0) line front =
    aimed ∙ with_then test then labels e (sized_ahead JumpIfFalse (a.size + 1) line) ∙ with_then a (one (Jump 0) line) labels started s ∙ with_one (Jump 0) line labels front in
    let same : length e2.instrs ≡ length front.instrs =
    ap (λ x. length x.instrs) h2 ∙ length_with a labels e1 s ∙ ap (λ x. length x.instrs + a.size) h1 ∙ ap (λ k. k + a.size) (length-append e.instrs (instr (JumpIfFalse 0) line ∷ []) ∙ sym (length_with test labels e (sized_ahead JumpIfFalse (a.size + 1) line))) ∙ sym (length_with a labels started s) in
    let last : e5 ≡ with_piece b labels (with_instr (Jump 0) line front) = h5 ∙ ap (with_piece b labels) again in
    h6 ∙ ap (λ n. with_aim n (Jump (length e5.instrs)) line e5) same ∙ ap (λ x. with_aim (length front.instrs) (Jump (length x.instrs)) line x) last ∙ with_past line a b labels started s t ∙ sym (with_then test (past line a b) labels e (sized_ahead JumpIfFalse (a.size + 1) line))

-- the same of code that grew by them

pub grows_nothing : (x : Emitted) → Grows nothing x x
grows_nothing x labels = sym (with_nothing labels x)

pub grows_one : (op : Op) (line : ℕ) (x y : Emitted) → y ≡ with_instr op line x → Grows (one op line) x y
grows_one op line x y h labels = h ∙ sym (with_one op line labels x)

pub grows_then : (a b : Piece) (x y z : Emitted) → Sized a → Grows a x y → Grows b y z → Grows (a ⨾ b) x z
grows_then a b x y z s p q labels = q labels ∙ ap (with_piece b labels) (p labels) ∙ sym (with_then a b labels x s)

-- a jump that is aimed after the code that it leads over
pub grows_over : (jump : ℕ → Op) (line : ℕ) (a : Piece) (e e1 e2 e3 : Emitted) (place end : ℕ) → Sized a → place ≡ length e.instrs → e1 ≡ with_instr (jump 0) line e → Grows a e1 e2 → end ≡ length e2.instrs →
    e3 ≡ with_aim place (jump end) line e2 → Grows (over jump line a) e e3
grows_over jump line a e e1 e2 e3 place end s here h1 h2 there h3 labels =
    let placed : e2 ≡ with_piece a labels (with_instr (jump 0) line e) = h2 labels ∙ ap (with_piece a labels) h1 in
    h3 ∙ ap (λ n. with_aim n (jump end) line e2) here ∙ ap (λ n. with_aim (length e.instrs) (jump n) line e2) there ∙ ap (λ x. with_aim (length e.instrs) (jump (length x.instrs)) line x) placed ∙ with_over jump line a labels e s

pub grows_fork : (line : ℕ) (a b : Piece) (e e1 e2 e3 e4 e5 e6 : Emitted) (jump middle leave end : ℕ) → Sized a → Sized b →
    jump ≡ length e.instrs → e1 ≡ with_instr (JumpIfFalse 0) line e → Grows a e1 e2 → leave ≡ length e2.instrs → e3 ≡ with_instr (Jump 0) line e2 → middle ≡ length e3.instrs → e4 ≡ with_aim jump (JumpIfFalse middle) line e3 →
    Grows b e4 e5 → end ≡ length e5.instrs → e6 ≡ with_aim leave (Jump end) line e5 → Grows (fork line a b) e e6
grows_fork line a b e e1 e2 e3 e4 e5 e6 jump middle leave end s t at h1 h2 left h3 mid h4 h5 last h6 labels =
    with_fork line a b labels e e1 e2 e3 e4 e5 e6 s t h1 (h2 labels) h3 (h4 ∙ ap (λ n. with_aim n (JumpIfFalse middle) line e3) at ∙ ap (λ n. with_aim (length e.instrs) (JumpIfFalse n) line e3) mid) (h5 labels)
    (h6 ∙ ap (λ n. with_aim n (Jump end) line e5) left ∙ ap (λ n. with_aim (length e2.instrs) (Jump n) line e5) last)

-- one instruction after a piece
pub grows_last : (a : Piece) (op : Op) (line : ℕ) (x y z : Emitted) → Sized a → Grows a x y → z ≡ with_instr op line y → Grows (a ⨾ one op line) x z
grows_last a op line x y z s p h = grows_then a (one op line) x y z s p (grows_one op line y z h)

-- a round of a loop: what is left to put shrinks by a piece
pub grows_round : (a rest whole : Piece) (start x y : Emitted) → Sized a → ((labels : Labels) → with_piece (a ⨾ rest) labels x ≡ with_piece whole labels start) → Grows a x y →
    (labels : Labels) → with_piece rest labels y ≡ with_piece whole labels start
grows_round a rest whole start x y s so_far step labels = ap (with_piece rest labels) (step labels) ∙ sym (with_then a rest labels x s) ∙ so_far labels

with_regrouped : (a b rest : Piece) (labels : Labels) (e : Emitted) → Sized a → Sized b → with_piece ((a ⨾ b) ⨾ rest) labels e ≡ with_piece (a ⨾ b ⨾ rest) labels e
with_regrouped a b rest labels e s t =
    with_then (a ⨾ b) rest labels e (sized_then a b s t) ∙ ap (with_piece rest labels) (with_then a b labels e s) ∙ sym (with_then b rest labels (with_piece a labels e) t) ∙ sym (with_then a (b ⨾ rest) labels e s)

-- the same where a round puts two pieces
pub grows_round_of_two : (a b rest whole : Piece) (start x y : Emitted) → Sized a → Sized b → ((labels : Labels) → with_piece (a ⨾ b ⨾ rest) labels x ≡ with_piece whole labels start) → Grows (a ⨾ b) x y →
    (labels : Labels) → with_piece rest labels y ≡ with_piece whole labels start
grows_round_of_two a b rest whole start x y s t so_far step = grows_round (a ⨾ b) rest whole start x y (sized_then a b s t) (λ labels. with_regrouped a b rest labels x s t ∙ so_far labels) step

-- places that lie within the code

pub opened_within : (place line : ℕ) (op : Op) (x y : Emitted) → place ≡ length x.instrs → y ≡ with_instr op line x → place < length y.instrs
opened_within place line op x y here h = let longer : length y.instrs ≡ length x.instrs + 1 = ap (λ e. length e.instrs) h ∙ length-append x.instrs (instr op line ∷ []) in omega arith

pub pushed_within : (place line : ℕ) (op : Op) (x y : Emitted) → place < length x.instrs → y ≡ with_instr op line x → place < length y.instrs
pushed_within place line op x y here h = let longer : length y.instrs ≡ length x.instrs + 1 = ap (λ e. length e.instrs) h ∙ length-append x.instrs (instr op line ∷ []) in omega arith

pub grown_within : (place : ℕ) (a : Piece) (x y : Emitted) → place < length x.instrs → Grows a x y → place < length y.instrs
grown_within place a x y here h =
    let anywhere : Labels = record { again = 0; out = 0 } in
    let longer : length y.instrs ≡ length x.instrs + length (a.code anywhere (length x.instrs)) = ap (λ e. length e.instrs) (h anywhere) ∙ length-append x.instrs (a.code anywhere (length x.instrs)) in
    omega arith

pub aimed_within : (place at line : ℕ) (op : Op) (x y : Emitted) → place < length x.instrs → y ≡ with_aim at op line x → place < length y.instrs
aimed_within place at line op x y here h = let same : length y.instrs ≡ length x.instrs = ap (λ e. length e.instrs) h ∙ length-set x.instrs at (instr op line) in omega arith
