-- How arguments are bound to parameters: by position, then by keyword, then by default (language reference, "Calls").
use Rattle.std.specs.Prelude.{ℕ, zero, suc, ◌+◌, Bool, true, false, not, ◌||◌, nat_lt, List, [], ◌∷◌, length, Option, Some, None, position, if◌then◌else◌}
use Rattle.std.specs.List.{list_any}
use Rattle.builtin_stubs.specs.Meanings.{Arguments}
use Rattle.type_terms.specs.BuiltinNames.{has_name}
use Rattle.py_meaning.specs.Events.{FaultKind, wrong_arg_count, missing_parameter, wrong_keyword_args, duplicate_keyword}

-- what a parameter gets: the receiver of a method, the argument at a place of the call, or its default
pub data Source : Type 0 where
  receiver : Source
  argument : ℕ → Source
  default : Source

-- one source for each parameter, or the first fault
pub data Matched : Type 0 where
  matched : List Source → Matched
  mismatch : FaultKind → Matched

-- how a call is written: how many arguments by position, and the keywords after them
pub record Call (N : Type 0) : Type 0 where
  pub positional : ℕ
  pub keywords : List N

module _ {N : Type 0} (same : N → N → Bool) where
  -- the place of the first parameter of a name
  abbrev pub place_of : List (N × Bool) → N → Option ℕ
  place_of params name = position (λ q. same name q.0) params

  -- the first keyword fault from the left, where so many parameters are filled by position, and others by earlier keywords
  abbrev pub keyword_fault : List (N × Bool) → (filled : ℕ) → (earlier : List N) → List N → Option FaultKind
  keyword_fault params filled earlier [] = None
  keyword_fault params filled earlier (k ∷ ks) =
      elim (place_of params k) [
        | None ↦ Some wrong_keyword_args
        | Some i ↦ if nat_lt i filled || list_any (same k) earlier then Some duplicate_keyword else keyword_fault params filled (k ∷ earlier) ks
      ]

  -- the keyword of a parameter: of several parameters of one name the first has it
  abbrev pub own_keyword : (earlier : List N) → List N → N → Option ℕ
  own_keyword earlier keywords name = if list_any (same name) earlier then None else position (λ k. same k name) keywords

  -- what a parameter behind those filled by position gets, where others stand before it; none where it is missing
  abbrev pub named_source : (positional : ℕ) → List N → (earlier : List N) → N × Bool → Option Source
  named_source positional keywords earlier param =
      elim (own_keyword earlier keywords param.0) [ Some j ↦ Some (argument (positional + j)) | None ↦ if param.1 then Some default else None ]

  abbrev pub with_source : Option Source → Option (List Source) → Option (List Source)
  with_source (Some s) (Some ss) = Some (s ∷ ss)
  with_source _ _ = None

  abbrev pub named_sources : (positional : ℕ) → List N → (earlier : List N) → List (N × Bool) → Option (List Source)
  named_sources positional keywords earlier [] = Some []
  named_sources positional keywords earlier (q ∷ qs) = with_source (named_source positional keywords earlier q) (named_sources positional keywords (q.0 ∷ earlier) qs)

  -- the arguments by position from the one at a place on, and then the others
  abbrev pub sources : (place positional : ℕ) → (left : ℕ) → List N → (earlier : List N) → List (N × Bool) → Option (List Source)
  sources place positional zero keywords earlier qs = named_sources positional keywords earlier qs
  sources place positional (suc left) keywords earlier [] = Some []
  sources place positional (suc left) keywords earlier (q ∷ qs) = with_source (Some (argument place)) (sources (suc place) positional left keywords (q.0 ∷ earlier) qs)

  abbrev pub all_sources : List (N × Bool) → (bound : Bool) → Call N → Option (List Source)
  all_sources (q ∷ qs) true c = with_source (Some receiver) (sources 0 c.positional c.positional c.keywords (q.0 ∷ []) qs)
  all_sources qs _ c = sources 0 c.positional c.positional c.keywords [] qs

  abbrev pub filled_places : (bound : Bool) → ℕ → ℕ
  filled_places true positional = suc positional
  filled_places false positional = positional

  abbrev pub if_all : Option (List Source) → Matched
  if_all None = mismatch missing_parameter
  if_all (Some ss) = matched ss

  abbrev pub if_keywords : Option FaultKind → Matched → Matched
  if_keywords (Some kind) others = mismatch kind
  if_keywords None others = others

  -- Too many arguments by position come first, then the keywords from the left, then the first parameter that is missing. A
  -- receiver fills the first parameter.
  abbrev pub match_arguments : List (N × Bool) → (bound : Bool) → Call N → Matched
  match_arguments params bound c =
      if nat_lt (length params) (filled_places bound c.positional) then mismatch wrong_arg_count
      else if_keywords (keyword_fault params (filled_places bound c.positional) [] c.keywords) (if_all (all_sources params bound c))

-- ---- natives, which take so many arguments by position and some by keyword

abbrev pub is_more : Option ℕ → ℕ → Bool
is_more None n = false
is_more (Some most) n = nat_lt most n

-- Where any keyword may stand, it may stand twice.
abbrev pub native_keyword_fault : Arguments → (earlier : List (List ℕ)) → List (List ℕ) → Option FaultKind
native_keyword_fault a earlier [] = None
native_keyword_fault a earlier (k ∷ ks) =
    if a.any_words then None
    else if has_name earlier k then Some duplicate_keyword
    else if has_name a.words k then native_keyword_fault a (k ∷ earlier) ks else Some wrong_keyword_args

abbrev pub if_enough : Bool → Option FaultKind
if_enough true = None
if_enough false = Some missing_parameter

abbrev pub native_fault : Arguments → Call (List ℕ) → Option FaultKind
native_fault a c =
    if is_more a.most c.positional then Some wrong_arg_count
    else elim (native_keyword_fault a [] c.keywords) [ Some kind ↦ Some kind | None ↦ if_enough (not (nat_lt c.positional a.least)) ]
