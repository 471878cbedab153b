-- The term of a type as contracts see it: no pointers, and each list of a type of its own.
use Rattle.std.specs.Prelude.{ℕ, List, [], ◌∷◌}

mutual
  pub data Term : Type 0 where
    any : Term
    none : Term
    bool : Term
    int : Term
    float : Term
    str : Term
    bytes : Term
    list : Term → Term
    -- the keys' type and the values' type
    dict : Term → Term → Term
    -- a tuple of so many places
    tuple : Terms → Term
    -- a tuple of any length
    tuple_of : Term → Term
    -- an instance of the class of this name
    class : List ℕ → Term
    -- the class of this name
    class_of : List ℕ → Term
    -- a callable of any arguments, with the type of what it returns
    callable : Term → Term
    union : Terms → Term
    deriving Discrete as term-discrete

  pub data Terms : Type 0 where
    no_terms : Terms
    term : Term → Terms → Terms
    deriving Discrete as terms-discrete

abbrev pub terms_of : List Term → Terms
terms_of [] = no_terms
terms_of (t ∷ ts) = term t (terms_of ts)

abbrev pub list_of : Terms → List Term
list_of no_terms = []
list_of (term t ts) = t ∷ list_of ts
