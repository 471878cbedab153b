-- Fresh values, parts, operators and what iterating gives are within the heap.
use Rattle.std.proofs.Common.{pos, ℕ, zero, suc, Bool, List, [], ◌∷◌, ◌++◌, map, length, Option, Some, None, slice_get, unwrap_or}
use Rattle.std.specs.Prelude.{is_some, codes}
use Rattle.std.specs.Str.{bytes_eq}
use Rattle.type_terms.specs.BuiltinNames.{is_instance_name}
use Rattle.place_ids.specs.declared.operators.BinOp.{BinOp}
use Rattle.place_ids.specs.declared.operators.BinOp.TheVariants as bin
use Rattle.place_ids.specs.declared.operators.CompareOp.{CompareOp}
use Rattle.place_ids.specs.declared.operators.CompareOp.TheVariants as cmp
use Rattle.place_ids.specs.declared.operators.UnaryOp.{UnaryOp}
use Rattle.builtin_stubs.specs.declared.basic.Basic.{Basic}
use Rattle.builtin_stubs.specs.declared.basic.Basic.TheVariants as kind
use Rattle.builtin_stubs.specs.declared.parts.Outcome.{Outcome}
use Rattle.builtin_stubs.specs.declared.parts.Outcome.TheVariants as outcome
use Rattle.builtin_stubs.specs.declared.parts.Part.{Part}
use Rattle.builtin_stubs.specs.declared.parts.Part.TheVariants as part
use Rattle.builtin_stubs.specs.declared.parts.Parts.{Parts}
use Rattle.builtin_stubs.specs.declared.parts.Parts.TheVariants as parts
use Rattle.builtin_stubs.specs.Kinds.{items_of as items_of_kind, kind_of_term}
use Rattle.builtin_stubs.specs.Meanings.{Native, outcome_of}
use Rattle.builtin_stubs.specs.Natives.{function_number}
use Rattle.type_terms.specs.Terms as term
use Rattle.type_terms.specs.Terms.{Term, Terms, list_of}
use Rattle.py_meaning.specs.Values.{whole, text, octets, Value, none, float, ref}
use Rattle.py_meaning.specs.Objects as object
use Rattle.py_meaning.specs.Objects.{Object, object_at, kind_of}
use Rattle.py_meaning.specs.Programs.{Program}
use Rattle.py_meaning.specs.StubItems.{StubClass, stub_class_at}
use Rattle.py_meaning.specs.Fresh as f
use Rattle.py_meaning.specs.Fresh.{fresh_whole, fresh_text, fresh_octets, fresh_instance, stub_class_value, class_value, fresh, fresh_member, of_kind, of_one_kind, value_of_row}
use Rattle.py_meaning.specs.Contents.{Content, held, declared, contents, contents_at, Pair, pairs, held_pair, read, read_all, read_pair, read_pairs}
use Rattle.py_meaning.specs.Operators.{times, repeated, gathered, made, by_row, binary, unary, known_truth, ordered, within, compare}
use Rattle.py_meaning.specs.Iteration.{Step, no_items, ended, element, on_element, stepped, among, by_parity, of_places, declared_step, step_of_term, values_of, pair_of, paired, pairs_of, at_value, paired_with, numbered, argument_at, step_of_view, step_of_native, step_of_object, step_of, iterate_in, iterate, drain_in, drain, items_of_object, items_of}
use Rattle.py_meaning.specs.Actions.{is_even, Memory, Action, gives, allocate, anything}
use Rattle.py_meaning.proofs.Growing.{Heap, Grown}
use Rattle.py_meaning.proofs.Pointing.{AreWithin, IsWithin, ObjectWithin, OptionWithin, PairWithin, PairsWithin, are_append, are_on, firsts_within, get_within, or_within, pair_within, pairs_on, seconds_within, within_on}
use Rattle.py_meaning.proofs.Kept.{safe_give, Good, Safe, Free, safe_bind, safe_takes, safe_counts, safe_looks, safe_if, safe_allocate, safe_at, object_within, safe_pick, safe_anything, safe_either, safe_fails, safe_one, safe_known, safe_gives, safe_gives_all, safe_gives_pairs}

-- ---- fresh values

pub whole_safe : {p : Program} (n : Heap) → Safe p n IsWithin fresh_whole
whole_safe n = safe_takes n IsWithin _ (λ c. safe_give n IsWithin (whole (pos c)) (λ k le. tt))

pub text_safe : {p : Program} (n : Heap) → Safe p n IsWithin fresh_text
text_safe n = safe_takes n IsWithin _ (λ c. safe_give n IsWithin (text (is_even c)) (λ k le. tt))

pub octets_safe : {p : Program} (n : Heap) → Safe p n IsWithin fresh_octets
octets_safe n = safe_takes n IsWithin _ (λ c. safe_give n IsWithin (octets (is_even c)) (λ k le. tt))

pub instance_safe : (p : Program) (n : Heap) (name : List ℕ) → Safe p n IsWithin (fresh_instance p name)
instance_safe p n name =
    safe_if n IsWithin (bytes_eq name (codes "object")) _ _ (safe_anything n)
    (safe_if n IsWithin (is_instance_name name) _ _ (safe_allocate n (object.outside (term.class name)) tt)
    (safe_if n IsWithin (is_some (stub_class_at p name)) _ _ (safe_allocate n (object.outside (term.class name)) tt) (safe_anything n)))

stub_class_safe : {p : Program} (n : Heap) (o : Option StubClass) → Safe p n IsWithin (stub_class_value o)
stub_class_safe n None = safe_anything n
stub_class_safe n (Some k) = safe_allocate n _ tt

class_safe : (p : Program) (n : Heap) (name : List ℕ) → Safe p n IsWithin (class_value p name)
class_safe p n name = safe_known n IsWithin (function_number name) _ _ (λ i e. safe_allocate n _ (name, e)) (stub_class_safe n (stub_class_at p name))

mutual
  pub fresh_safe : (p : Program) (t : Term) (n : Heap) → Safe p n IsWithin (fresh p t)
  fresh_safe p term.any n = safe_anything n
  fresh_safe p term.none n = safe_gives n none tt
  fresh_safe p term.bool n = safe_either n
  fresh_safe p term.int n = whole_safe n
  fresh_safe p term.float n = safe_gives n float tt
  fresh_safe p term.str n = text_safe n
  fresh_safe p term.bytes n = octets_safe n
  fresh_safe p (term.class name) n = instance_safe p n name
  fresh_safe p (term.class_of name) n = class_safe p n name
  fresh_safe p (term.union ts) n = safe_bind n Free IsWithin _ _ (safe_pick n (f.size ts)) (λ i k le h. fresh_member_safe p ts i k)
  fresh_safe p (term.list t) n = safe_allocate n _ tt
  fresh_safe p (term.dict t u) n = safe_allocate n _ tt
  fresh_safe p (term.tuple ts) n = safe_allocate n _ tt
  fresh_safe p (term.tuple_of t) n = safe_allocate n _ tt
  fresh_safe p (term.callable t) n = safe_allocate n _ tt

  pub fresh_member_safe : (p : Program) (ts : Terms) (i : ℕ) (n : Heap) → Safe p n IsWithin (fresh_member p ts i)
  fresh_member_safe p term.no_terms i n = safe_anything n
  fresh_member_safe p (term.term t ts) zero n = fresh_safe p t n
  fresh_member_safe p (term.term t ts) (suc i) n = fresh_member_safe p ts i n

pub kind_safe : {p : Program} (n : Heap) (k : Basic) → Safe p n IsWithin (of_kind k)
kind_safe n kind.NoneKind = safe_gives n none tt
kind_safe n kind.Bool = safe_either n
kind_safe n kind.Int = whole_safe n
kind_safe n kind.Float = safe_gives n float tt
kind_safe n kind.Str = text_safe n
kind_safe n kind.Bytes = octets_safe n
kind_safe n kind.Range = safe_allocate n _ tt
kind_safe n _ = safe_anything n

one_kind_safe : {p : Program} (n : Heap) (ps : Parts) → Safe p n IsWithin (of_one_kind ps)
one_kind_safe n (parts.One (part.Kind k)) = kind_safe n k
one_kind_safe n _ = safe_anything n

by_outcome_safe : {p : Program} (n : Heap) (o : Outcome) → Safe p n IsWithin (elim o [ outcome.TupleOfAnything ↦ allocate (object.outside (term.tuple_of term.any)) | outcome.Gives ps ↦ of_one_kind ps | _ ↦ anything ])
by_outcome_safe n outcome.TupleOfAnything = safe_allocate n _ tt
by_outcome_safe n (outcome.Gives ps) = one_kind_safe n ps
by_outcome_safe n _ = safe_anything n

pub row_value_safe : {p : Program} (n : Heap) (x : Native) → Safe p n IsWithin (value_of_row x)
row_value_safe n x = by_outcome_safe n (outcome_of x.deed)

-- ---- parts

abbrev pub ContentWithin : Heap → Content → Type 0
ContentWithin n (held v) = IsWithin n v
ContentWithin n (declared t) = Unit {0}

abbrev pub ContentsWithin : Heap → List Content → Type 0
ContentsWithin n [] = Unit {0}
ContentsWithin n (c ∷ cs) = ContentWithin n c × ContentsWithin n cs

abbrev pub ContentPairsWithin : Heap → List Pair → Type 0
ContentPairsWithin n [] = Unit {0}
ContentPairsWithin n (q ∷ qs) = ContentWithin n q.0 × ContentWithin n q.1 × ContentPairsWithin n qs

pub contents_on : {p : Program} (n k : Heap) (cs : List Content) → Grown p n k → ContentsWithin n cs → ContentsWithin k cs
contents_on n k [] le h = tt
contents_on n k (held v ∷ cs) le h = (within_on n k v le h.0, contents_on n k cs le h.1)
contents_on n k (declared t ∷ cs) le h = (tt, contents_on n k cs le h.1)

pub all_held : (n : Heap) (vs : List Value) → AreWithin n vs → ContentsWithin n (map held vs)
all_held n [] h = tt
all_held n (v ∷ vs) h = (h.0, all_held n vs h.1)

all_declared : (n : Heap) (ts : List Term) → ContentsWithin n (map declared ts)
all_declared n [] = tt
all_declared n (t ∷ ts) = (tt, all_declared n ts)

pairs_held : (n : Heap) (qs : List (Value × Value)) → PairsWithin n qs → ContentPairsWithin n (map held_pair qs)
pairs_held n [] h = tt
pairs_held n (q ∷ qs) h = (h.0, h.1, pairs_held n qs h.2)

pub contents_within : (n : Heap) (o : Object) → ObjectWithin n o → ContentsWithin n (contents o)
contents_within n (object.list site vs) h = all_held n vs h
contents_within n (object.tuple site layout vs) h = all_held n vs h
contents_within n (object.outside (term.list t)) h = (tt, tt)
contents_within n (object.outside (term.tuple ts)) h = all_declared n (list_of ts)
contents_within n (object.outside (term.tuple_of t)) h = (tt, tt)
contents_within n _ h = tt

pub contents_at_within : {p : Program} {root : Heap} (m : Memory) (v : Value) → Good p root m → ContentsWithin m.heap (contents_at m.heap v)
contents_at_within m (ref place) good = contents_within m.heap (object_at m.heap place) (object_within m place good)
contents_at_within m none good = tt
contents_at_within m _ good = tt

pub content_pairs_within : (n : Heap) (o : Object) → ObjectWithin n o → ContentPairsWithin n (pairs o)
content_pairs_within n (object.dict site qs) h = pairs_held n qs h
content_pairs_within n (object.outside (term.dict t u)) h = (tt, tt, tt)
content_pairs_within n _ h = tt

contents_append : (n : Heap) (cs ds : List Content) → ContentsWithin n cs → ContentsWithin n ds → ContentsWithin n (cs ++ ds)
contents_append n [] ds h k = k
contents_append n (c ∷ cs) ds h k = (h.0, contents_append n cs ds h.1 k)

pub read_safe : (p : Program) (n : Heap) (c : Content) → ContentWithin n c → Safe p n IsWithin (read p c)
read_safe p n (held v) h = safe_gives n v h
read_safe p n (declared t) h = fresh_safe p t n

pub read_all_safe : (p : Program) (n : Heap) (cs : List Content) → ContentsWithin n cs → Safe p n AreWithin (read_all p cs)
read_all_safe p n [] h = safe_gives_all n [] tt
read_all_safe p n (c ∷ cs) h =
    safe_bind n IsWithin AreWithin _ _ (read_safe p n c h.0) (λ v k le w.
    safe_bind k AreWithin AreWithin _ _ (read_all_safe p k cs (contents_on n k cs le h.1)) (λ vs j le' ws. safe_gives_all j (v ∷ vs) (within_on k j v le' w, ws)))

abbrev pub BothWithin : Heap → Value × Value → Type 0
BothWithin n q = IsWithin n q.0 × IsWithin n q.1

safe_both : {p : Program} (n : Heap) (q : Value × Value) → IsWithin n q.0 → IsWithin n q.1 → Safe p n BothWithin (gives q)
safe_both n q h k = safe_give n BothWithin q (λ j le. (within_on n j q.0 le h, within_on n j q.1 le k))

content_on : {p : Program} (n k : Heap) (c : Content) → Grown p n k → ContentWithin n c → ContentWithin k c
content_on n k (held v) le h = within_on n k v le h
content_on n k (declared t) le h = tt

pub read_pair_safe : (p : Program) (n : Heap) (q : Pair) → ContentWithin n q.0 → ContentWithin n q.1 → Safe p n BothWithin (read_pair p q)
read_pair_safe p n q h g =
    safe_bind n IsWithin BothWithin _ _ (read_safe p n q.0 h) (λ v k le w.
    safe_bind k IsWithin BothWithin _ _ (read_safe p k q.1 (content_on n k q.1 le g)) (λ x j le' y. safe_both j (v, x) (within_on k j v le' w) y))

content_pairs_on : {p : Program} (n k : Heap) (qs : List Pair) → Grown p n k → ContentPairsWithin n qs → ContentPairsWithin k qs
content_pairs_on n k [] le h = tt
content_pairs_on n k (q ∷ qs) le h = (content_on n k q.0 le h.0, content_on n k q.1 le h.1, content_pairs_on n k qs le h.2)

pub read_pairs_safe : (p : Program) (n : Heap) (qs : List Pair) → ContentPairsWithin n qs → Safe p n PairsWithin (read_pairs p qs)
read_pairs_safe p n [] h = safe_gives_pairs n [] tt
read_pairs_safe p n (q ∷ qs) h =
    safe_bind n BothWithin PairsWithin _ _ (read_pair_safe p n q h.0 h.1) (λ v k le w.
    safe_bind k PairsWithin PairsWithin _ _ (read_pairs_safe p k qs (content_pairs_on n k qs le h.2)) (λ vs j le' ws. safe_gives_pairs j (v ∷ vs) (within_on k j v.0 le' w.0, within_on k j v.1 le' w.1, ws)))

-- ---- operators

times_safe : (p : Program) (fuel : ℕ) (n : Heap) (cs : List Content) (sofar : List Value) → ContentsWithin n cs → AreWithin n sofar → Safe p n AreWithin (times p fuel cs sofar)
times_safe p zero n cs sofar h k = safe_takes n AreWithin _ (λ c. safe_gives_all n sofar k)
times_safe p (suc fuel) n cs sofar h k =
    safe_takes n AreWithin _ (λ c. safe_if n AreWithin _ _ _
    (safe_bind n AreWithin AreWithin _ _ (read_all_safe p n cs h) (λ vs j le ws. times_safe p fuel j cs (sofar ++ vs) (contents_on n j cs le h) (are_append j sofar vs (are_on n j sofar le k) ws)))
    (safe_gives_all n sofar k))

pub repeated_safe : (p : Program) (n : Heap) (cs : List Content) → ContentsWithin n cs → Safe p n AreWithin (repeated p cs)
repeated_safe p n cs h = safe_counts n AreWithin _ (λ fuel. times_safe p fuel n cs [] h tt)

gathered_safe : (p : Program) (op : BinOp) (n : Heap) (cs : List Content) → ContentsWithin n cs → Safe p n AreWithin (gathered p op cs)
gathered_safe p bin.Mul n cs h = repeated_safe p n cs h
gathered_safe p _ n cs h = read_all_safe p n cs h

made_safe : (p : Program) (op : BinOp) (k : Basic) (site : ℕ) (n : Heap) (cs : List Content) → ContentsWithin n cs → Safe p n IsWithin (made p op k site cs)
made_safe p op kind.List site n cs h = safe_bind n AreWithin IsWithin _ _ (gathered_safe p op n cs h) (λ vs j le ws. safe_allocate j _ ws)
made_safe p op kind.Tuple site n cs h = safe_bind n AreWithin IsWithin _ _ (gathered_safe p op n cs h) (λ vs j le ws. safe_allocate j _ ws)
made_safe p op kind.NoneKind site n cs h = kind_safe n kind.NoneKind
made_safe p op k site n cs h = kind_safe n k

by_row_safe : {p : Program} (n : Heap) (line : ℕ) (g : Basic → Action Value) (o : Option (List Basic)) → ((k : Basic) (j : Heap) → Grown p n j → Safe p j IsWithin (g k)) → Safe p n IsWithin (by_row line g o)
by_row_safe n line g None h = safe_fails n IsWithin line _
by_row_safe n line g (Some ks) h = safe_bind n Free IsWithin _ _ (safe_one n ks) (λ k j le w. h (unwrap_or k kind.Other) j le)

pub binary_safe : (p : Program) (op : BinOp) (site line : ℕ) (n : Heap) (v w : Value) → Safe p n IsWithin (binary p op site line v w)
binary_safe p op site line n v w =
    safe_looks n IsWithin _ (λ root m good le.
    safe_if m.heap IsWithin _ _ _ (safe_anything m.heap)
    (by_row_safe m.heap line _ _ (λ k j le'. made_safe p op k site j _ (contents_on m.heap j _ le' (contents_append m.heap _ _ (contents_at_within m v good) (contents_at_within m w good))))))

pub unary_safe : {p : Program} (op : UnaryOp) (line : ℕ) (n : Heap) (v : Value) → Safe p n IsWithin (unary op line v)
unary_safe op line n v =
    safe_looks n IsWithin _ (λ root m good le. safe_if m.heap IsWithin _ _ _ (safe_anything m.heap) (by_row_safe m.heap line _ _ (λ k j le'. kind_safe j k)))

known_safe : {p : Program} (n : Heap) (g : Bool → Bool) (o : Option Bool) → Safe p n IsWithin (known_truth g o)
known_safe n g None = safe_either n
known_safe n g (Some b) = safe_gives n _ tt

ordered_safe : {p : Program} (line : ℕ) (n : Heap) (v w : Value) → Safe p n IsWithin (ordered line v w)
ordered_safe line n v w =
    safe_looks n IsWithin _ (λ root m good le. safe_if m.heap IsWithin _ _ _ (safe_anything m.heap) (by_row_safe m.heap line _ _ (λ k j le'. kind_safe j k)))

within_safe : {p : Program} (line : ℕ) (n : Heap) (v w : Value) → Safe p n IsWithin (within line v w)
within_safe line n v w = safe_looks n IsWithin _ (λ root m good le. safe_if m.heap IsWithin _ _ _ (safe_either m.heap) (safe_fails m.heap IsWithin line _))

pub compare_safe : {p : Program} (op : CompareOp) (line : ℕ) (n : Heap) (v w : Value) → Safe p n IsWithin (compare op line v w)
compare_safe cmp.Equal line n v w = safe_either n
compare_safe cmp.NotEqual line n v w = safe_either n
compare_safe cmp.Is line n v w = safe_looks n IsWithin _ (λ root m good le. known_safe m.heap _ _)
compare_safe cmp.IsNot line n v w = safe_looks n IsWithin _ (λ root m good le. known_safe m.heap _ _)
compare_safe cmp.Within line n v w = within_safe line n v w
compare_safe cmp.NotWithin line n v w = within_safe line n v w
compare_safe _ line n v w = ordered_safe line n v w

-- ---- iterating

abbrev pub StepWithin : Heap → Step → Type 0
StepWithin n (element v) = IsWithin n v
StepWithin n _ = Unit {0}

pub safe_step : {p : Program} (n : Heap) (one : Step) → StepWithin n one → Safe p n StepWithin (gives one)
safe_step n (element v) h = safe_give n StepWithin (element v) (λ k le. within_on n k v le h)
safe_step n no_items h = safe_give n StepWithin no_items (λ k le. tt)
safe_step n ended h = safe_give n StepWithin ended (λ k le. tt)

pub element_safe : {p : Program} {A : Type 0} (n : Heap) (P : Heap → A → Type 0) (one : Step) (g : Value → Action A) (a : Action A) → StepWithin n one → ((v : Value) → IsWithin n v → Safe p n P (g v)) → Safe p n P a → Safe p n P (on_element one g a)
element_safe n P (element v) g a h k j = k v h
element_safe n P no_items g a h k j = j
element_safe n P ended g a h k j = j

stepped_safe : {p : Program} (n : Heap) (o : Option Value) → OptionWithin n o → Safe p n StepWithin (gives (stepped o))
stepped_safe n None h = safe_step n ended tt
stepped_safe n (Some v) h = safe_step n (element v) h

among_safe : {p : Program} (n : Heap) (vs : List Value) → AreWithin n vs → Safe p n StepWithin (among vs)
among_safe n vs h = safe_bind n Free StepWithin _ _ (safe_pick n (suc (length vs))) (λ i k le w. stepped_safe k (slice_get vs i) (get_within k vs i (are_on n k vs le h)))

parity_safe : {p : Program} (n : Heap) (a : Action Value) → Safe p n IsWithin a → Safe p n StepWithin (by_parity a)
parity_safe n a h = safe_takes n StepWithin _ (λ c. safe_if n StepWithin _ _ _ (safe_bind n IsWithin StepWithin _ _ h (λ v k le w. safe_step k (element v) w)) (safe_step n ended tt))

places_safe : (p : Program) (n : Heap) (ts : Terms) → Safe p n StepWithin (of_places p ts)
places_safe p n term.no_terms = safe_step n ended tt
places_safe p n (term.term t ts) = parity_safe n _ (safe_bind n Free IsWithin _ _ (safe_pick n (f.size (term.term t ts))) (λ i k le h. fresh_member_safe p (term.term t ts) i k))

declared_step_safe : (p : Program) (n : Heap) (o : Option Part) (t : Term) → Safe p n StepWithin (declared_step p o t)
declared_step_safe p n (Some (part.Kind k)) t = parity_safe n _ (kind_safe n k)
declared_step_safe p n (Some part.OwnElements) (term.list t) = parity_safe n _ (fresh_safe p t n)
declared_step_safe p n (Some part.OwnElements) (term.tuple ts) = places_safe p n ts
declared_step_safe p n (Some part.OwnElements) (term.tuple_of t) = parity_safe n _ (fresh_safe p t n)
declared_step_safe p n (Some part.OwnKeys) (term.dict t u) = parity_safe n _ (fresh_safe p t n)
declared_step_safe p n (Some part.OwnValues) (term.dict t u) = parity_safe n _ (fresh_safe p u n)
declared_step_safe p n _ _ = safe_step n no_items tt

term_step_safe : (p : Program) (n : Heap) (t : Term) → Safe p n StepWithin (step_of_term p t)
term_step_safe p n t = declared_step_safe p n (items_of_kind (kind_of_term t)) t

values_safe : (p : Program) (n : Heap) (o : Object) → ObjectWithin n o → Safe p n StepWithin (values_of p o)
values_safe p n (object.dict site qs) h = among_safe n _ (seconds_within n qs h)
values_safe p n (object.outside t) h = declared_step_safe p n (Some part.OwnValues) t
values_safe p n _ h = safe_step n no_items tt

pair_safe : {p : Program} (site : ℕ) (n : Heap) (v w : Value) → IsWithin n v → IsWithin n w → Safe p n IsWithin (pair_of site v w)
pair_safe site n v w h k = safe_allocate n (object.tuple site object.places (v ∷ w ∷ [])) (h, (k, tt))

paired_safe : {p : Program} (site : ℕ) (n : Heap) (o : Option (Value × Value)) → PairWithin n o → Safe p n StepWithin (paired site o)
paired_safe site n None h = safe_step n ended tt
paired_safe site n (Some q) h = safe_bind n IsWithin StepWithin _ _ (pair_safe site n q.0 q.1 h.0 h.1) (λ v k le w. safe_step k (element v) w)

pairs_step_safe : (p : Program) (site : ℕ) (n : Heap) (o : Object) → ObjectWithin n o → Safe p n StepWithin (pairs_of p site o)
pairs_step_safe p site n (object.dict own qs) h = safe_bind n Free StepWithin _ _ (safe_pick n (suc (length qs))) (λ i k le w. paired_safe site k (slice_get qs i) (pair_within k qs i (pairs_on n k qs le h)))
pairs_step_safe p site n (object.outside (term.dict t u)) h =
    parity_safe n _ (safe_bind n IsWithin IsWithin _ _ (fresh_safe p t n) (λ v k le a. safe_bind k IsWithin IsWithin _ _ (fresh_safe p u k) (λ w j le' b. pair_safe site j v w (within_on k j v le' a) b)))
pairs_step_safe p site n _ h = safe_step n no_items tt

at_value_safe : {p : Program} (n : Heap) (v : Value) (g : Object → Action Step) → ((o : Object) (k : Heap) → Grown p n k → ObjectWithin k o → Safe p k StepWithin (g o)) → Safe p n StepWithin (at_value v g)
at_value_safe n (ref place) g h = safe_at n StepWithin place g h
at_value_safe n none g h = safe_step n no_items tt
at_value_safe n _ g h = safe_step n no_items tt

-- what iterates values within the heap
abbrev pub Iterates : Program → (Value → Action Step) → Type 0
Iterates p inner = (v : Value) (n : Heap) → IsWithin n v → Safe p n StepWithin (inner v)

argument_within : (n : Heap) (vs : List Value) (i : ℕ) → AreWithin n vs → IsWithin n (argument_at vs i)
argument_within n vs i h = or_within n (slice_get vs i) none (get_within n vs i h) tt

paired_with_safe : {p : Program} (site : ℕ) (n : Heap) (a b : Action Step) → Safe p n StepWithin a → ((k : Heap) → Grown p n k → Safe p k StepWithin b) → Safe p n StepWithin (paired_with site a b)
paired_with_safe site n a b h g =
    safe_bind n StepWithin StepWithin _ _ h (λ one k le w. element_safe k StepWithin one _ _ w
    (λ v x. safe_bind k StepWithin StepWithin _ _ (g k le) (λ other j le' y. element_safe j StepWithin other _ _ y
    (λ u z. safe_bind j IsWithin StepWithin _ _ (pair_safe site j v u (within_on k j v le' x) z) (λ q i le'' r. safe_step i (element q) r))
    (safe_step j ended tt)))
    (safe_step k ended tt))

numbered_safe : {p : Program} (site : ℕ) (n : Heap) (b : Basic) (a : Action Step) → Safe p n StepWithin a → Safe p n StepWithin (numbered site b a)
numbered_safe site n b a h =
    safe_bind n StepWithin StepWithin _ _ h (λ one k le w. element_safe k StepWithin one _ _ w
    (λ v x. safe_bind k IsWithin StepWithin _ _ (kind_safe k b) (λ i j le' y. safe_bind j IsWithin StepWithin _ _ (pair_safe site j i v y (within_on k j v le' x)) (λ q l le'' r. safe_step l (element q) r)))
    (safe_step k ended tt))

view_safe : (p : Program) (inner : Value → Action Step) (site : ℕ) (n : Heap) (receiver : Value) (vs : List Value) (o : Outcome) → Iterates p inner → IsWithin n receiver → AreWithin n vs → Safe p n StepWithin (step_of_view p inner site receiver vs o)
view_safe p inner site n receiver vs (outcome.View (parts.One part.OwnKeys)) it h k = it receiver n h
view_safe p inner site n receiver vs (outcome.View (parts.One part.OwnValues)) it h k = at_value_safe n receiver _ (λ o j le w. values_safe p j o w)
view_safe p inner site n receiver vs (outcome.PairView (parts.One part.OwnKeys) (parts.One part.OwnValues)) it h k = at_value_safe n receiver _ (λ o j le w. pairs_step_safe p site j o w)
view_safe p inner site n receiver vs (outcome.PairView (parts.One (part.Kind b)) (parts.One (part.Items i))) it h k = numbered_safe site n b _ (it (argument_at vs i) n (argument_within n vs i k))
view_safe p inner site n receiver vs (outcome.PairView (parts.One (part.Items i)) (parts.One (part.Items j))) it h k =
    paired_with_safe site n _ _ (it (argument_at vs i) n (argument_within n vs i k)) (λ l le. it (argument_at vs j) l (argument_within l vs j (are_on n l vs le k)))
view_safe p inner site n receiver vs _ it h k = safe_step n ended tt

native_step_safe : (p : Program) (inner : Value → Action Step) (site : ℕ) (n : Heap) (receiver : Value) (vs : List Value) (o : Option Native) → Iterates p inner → IsWithin n receiver → AreWithin n vs → Safe p n StepWithin (step_of_native p inner site receiver vs o)
native_step_safe p inner site n receiver vs None it h k = safe_step n ended tt
native_step_safe p inner site n receiver vs (Some x) it h k = view_safe p inner site n receiver vs (outcome_of x.deed) it h k

object_step_safe : (p : Program) (inner : Value → Action Step) (n : Heap) (o : Object) → Iterates p inner → ObjectWithin n o → Safe p n StepWithin (step_of_object p inner o)
object_step_safe p inner n (object.list site vs) it h = among_safe n vs h
object_step_safe p inner n (object.tuple site layout vs) it h = among_safe n vs h
object_step_safe p inner n (object.dict site qs) it h = among_safe n _ (firsts_within n qs h)
object_step_safe p inner n (object.view site native receiver vs) it h = native_step_safe p inner site n (unwrap_or receiver none) vs _ it (or_within n receiver none h.0 tt) h.1
object_step_safe p inner n (object.outside t) it h = safe_if n StepWithin (object.is_unfollowed (object.outside t)) _ _ (parity_safe n _ (safe_anything n)) (term_step_safe p n t)
object_step_safe p inner n _ it h = safe_step n no_items tt

step_safe : (p : Program) (inner : Value → Action Step) → Iterates p inner → Iterates p (step_of p inner)
step_safe p inner it (ref place) n h = safe_at n StepWithin place _ (λ o k le w. object_step_safe p inner k o it w)
step_safe p inner it none n h = declared_step_safe p n (items_of_kind (kind_of [] none)) term.any
step_safe p inner it v n h = declared_step_safe p n (items_of_kind (kind_of [] v)) term.any

iterate_in_safe : (p : Program) (fuel : ℕ) → Iterates p (iterate_in p fuel)
iterate_in_safe p zero v n h = step_safe p (λ w. gives ended) (λ w k x. safe_step k ended tt) v n h
iterate_in_safe p (suc fuel) v n h = step_safe p (λ w. iterate_in p fuel w) (iterate_in_safe p fuel) v n h

pub iterate_safe : (p : Program) (n : Heap) (v : Value) → IsWithin n v → Safe p n StepWithin (iterate p v)
iterate_safe p n v h = safe_looks n StepWithin _ (λ root m good le. iterate_in_safe p (length m.heap) v m.heap (within_on n m.heap v le h))

drain_in_safe : (p : Program) (fuel : ℕ) (n : Heap) (v : Value) (sofar : List Value) → IsWithin n v → AreWithin n sofar → Safe p n AreWithin (drain_in p fuel v sofar)
drain_in_safe p zero n v sofar h k = safe_bind n StepWithin AreWithin _ _ (iterate_safe p n v h) (λ one j le w. safe_gives_all j sofar (are_on n j sofar le k))
drain_in_safe p (suc fuel) n v sofar h k =
    safe_bind n StepWithin AreWithin _ _ (iterate_safe p n v h) (λ one j le w. element_safe j AreWithin one _ _ w
    (λ u x. drain_in_safe p fuel j v (sofar ++ u ∷ []) (within_on n j v le h) (are_append j sofar (u ∷ []) (are_on n j sofar le k) (x, tt)))
    (safe_gives_all j sofar (are_on n j sofar le k)))

pub drain_safe : (p : Program) (n : Heap) (v : Value) → IsWithin n v → Safe p n AreWithin (drain p v)
drain_safe p n v h = safe_counts n AreWithin _ (λ fuel. drain_in_safe p fuel n v [] h tt)

items_object_safe : (p : Program) (n : Heap) (v : Value) (o : Object) → IsWithin n v → ObjectWithin n o → Safe p n AreWithin (items_of_object p v o)
items_object_safe p n v (object.list site vs) h k = safe_gives_all n vs k
items_object_safe p n v (object.tuple site layout vs) h k = safe_gives_all n vs k
items_object_safe p n v (object.dict site qs) h k = safe_gives_all n _ (firsts_within n qs k)
items_object_safe p n v _ h k = drain_safe p n v h

pub items_safe : (p : Program) (n : Heap) (v : Value) → IsWithin n v → Safe p n AreWithin (items_of p v)
items_safe p n (ref place) h = safe_at n AreWithin place _ (λ o k le w. items_object_safe p k (ref place) o (within_on n k (ref place) le h) w)
items_safe p n none h = drain_safe p n none h
items_safe p n v h = drain_safe p n v h
