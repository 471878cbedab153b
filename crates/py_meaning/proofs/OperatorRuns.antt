-- Runs of operators, computed.
use Rattle.std.specs.Prelude.{◌≡◌, pos, true, false, [], ◌∷◌, None, refl, codes}
use Rattle.place_ids.specs.declared.operators.BinOp.TheVariants as bin
use Rattle.place_ids.specs.declared.operators.CompareOp.TheVariants as cmp
use Rattle.place_ids.specs.declared.operators.UnaryOp.TheVariants as un
use Rattle.py_tree.specs.declared.literal.Literal.TheVariants as lit
use Rattle.py_tree.specs.Tree.{Module}
use Rattle.py_meaning.specs.Values.{none, truth, whole, float, text, octets, ref}
use Rattle.py_meaning.specs.Objects as object
use Rattle.py_meaning.specs.Events as event
use Rattle.py_meaning.specs.Runs.{turns_within, answer, ended, raised_out}
use Rattle.py_meaning.proofs.Written.{written, name, literal, int, str, bytes, unary, binary, compare, not, and, or, choice, tuple, list, set, augment}
use Rattle.py_meaning.proofs.Samples.{answered, error, anything}

--     x = 1
--     y = x
abbrev names_module : Module
names_module = written (
    set "x" (int 1) ∷
    set "y" (name "x") ∷ [])

names : answered names_module [] 0 (0 ∷ []) ([]) ≡ record {
  events = event.held 0 (whole (pos 1)) ∷ event.held 1 (whole (pos 1)) ∷ [];
  heap = [];
  ending = ended;
  choices = [];
  turns = 0;
}
unfolding answer turns_within
names = refl

-- a whole number is the choice itself
--     x = 1
--     z = x + 2
abbrev sums_module : Module
sums_module = written (
    set "x" (int 1) ∷
    set "z" (binary (name "x") bin.Add (int 2)) ∷ [])

sums : answered sums_module [] 0 (0 ∷ 0 ∷ 7 ∷ []) ([]) ≡ record {
  events = event.held 0 (whole (pos 1)) ∷ event.held 1 (whole (pos 7)) ∷ [];
  heap = [];
  ending = ended;
  choices = [];
  turns = 0;
}
unfolding answer turns_within
sums = refl

--     z = 1 / 2
abbrev divides_module : Module
divides_module = written (
    set "z" (binary (int 1) bin.Div (int 2)) ∷ [])

divides : answered divides_module [] 0 (0 ∷ []) ([]) ≡ record {
  events = event.held 0 float ∷ [];
  heap = [];
  ending = ended;
  choices = [];
  turns = 0;
}
unfolding answer turns_within
divides = refl

-- of the two kinds of a power the choice picks the float
--     z = 2 ** 3
abbrev raises_to_a_float_module : Module
raises_to_a_float_module = written (
    set "z" (binary (int 2) bin.Pow (int 3)) ∷ [])

raises_to_a_float : answered raises_to_a_float_module [] 0 (0 ∷ 1 ∷ []) ([]) ≡ record {
  events = event.held 0 float ∷ [];
  heap = [];
  ending = ended;
  choices = [];
  turns = 0;
}
unfolding answer turns_within
raises_to_a_float = refl

--     z = 2 ** 3
abbrev raises_to_a_whole_module : Module
raises_to_a_whole_module = written (
    set "z" (binary (int 2) bin.Pow (int 3)) ∷ [])

raises_to_a_whole : answered raises_to_a_whole_module [] 0 (0 ∷ 2 ∷ 9 ∷ []) ([]) ≡ record {
  events = event.held 0 (whole (pos 9)) ∷ [];
  heap = [];
  ending = ended;
  choices = [];
  turns = 0;
}
unfolding answer turns_within
raises_to_a_whole = refl

--     z = True & False
abbrev joins_bits_of_truth_values_module : Module
joins_bits_of_truth_values_module = written (
    set "z" (binary (literal lit.TrueValue) bin.BitAnd (literal lit.FalseValue)) ∷ [])

joins_bits_of_truth_values : answered joins_bits_of_truth_values_module [] 0 (0 ∷ 1 ∷ []) ([]) ≡ record {
  events = event.held 0 (truth false) ∷ [];
  heap = [];
  ending = ended;
  choices = [];
  turns = 0;
}
unfolding answer turns_within
joins_bits_of_truth_values = refl

--     z = True | 4
abbrev joins_bits_of_numbers_module : Module
joins_bits_of_numbers_module = written (
    set "z" (binary (literal lit.TrueValue) bin.BitOr (int 4)) ∷ [])

joins_bits_of_numbers : answered joins_bits_of_numbers_module [] 0 (0 ∷ 6 ∷ []) ([]) ≡ record {
  events = event.held 0 (whole (pos 6)) ∷ [];
  heap = [];
  ending = ended;
  choices = [];
  turns = 0;
}
unfolding answer turns_within
joins_bits_of_numbers = refl

--     z = 1 << 2
abbrev shifts_module : Module
shifts_module = written (
    set "z" (binary (int 1) bin.ShiftLeft (int 2)) ∷ [])

shifts : answered shifts_module [] 0 (0 ∷ 5 ∷ []) ([]) ≡ record {
  events = event.held 0 (whole (pos 5)) ∷ [];
  heap = [];
  ending = ended;
  choices = [];
  turns = 0;
}
unfolding answer turns_within
shifts = refl

--     z = "a" + "b"
abbrev joins_texts_module : Module
joins_texts_module = written (
    set "z" (binary (str "a") bin.Add (str "b")) ∷ [])

joins_texts : answered joins_texts_module [] 0 (0 ∷ 3 ∷ []) ([]) ≡ record {
  events = event.held 0 (text false) ∷ [];
  heap = [];
  ending = ended;
  choices = [];
  turns = 0;
}
unfolding answer turns_within
joins_texts = refl

--     z = 2 * "a"
abbrev repeats_a_text_module : Module
repeats_a_text_module = written (
    set "z" (binary (int 2) bin.Mul (str "a")) ∷ [])

repeats_a_text : answered repeats_a_text_module [] 0 (0 ∷ 4 ∷ []) ([]) ≡ record {
  events = event.held 0 (text true) ∷ [];
  heap = [];
  ending = ended;
  choices = [];
  turns = 0;
}
unfolding answer turns_within
repeats_a_text = refl

--     z = b"a" % 3
abbrev formats_bytes_module : Module
formats_bytes_module = written (
    set "z" (binary (bytes "a") bin.Mod (int 3)) ∷ [])

formats_bytes : answered formats_bytes_module [] 0 (0 ∷ 2 ∷ []) ([]) ≡ record {
  events = event.held 0 (octets true) ∷ [];
  heap = [];
  ending = ended;
  choices = [];
  turns = 0;
}
unfolding answer turns_within
formats_bytes = refl

-- a new list, at the place of the sum
--     z = [1] + [2]
abbrev joins_lists_module : Module
joins_lists_module = written (
    set "z" (binary (list (int 1 ∷ [])) bin.Add (list (int 2 ∷ []))) ∷ [])

joins_lists : answered joins_lists_module [] 0 (0 ∷ []) ([]) ≡ record {
  events = event.held 0 (ref 2) ∷ [];
  heap = object.list 2 ((whole (pos 1)) ∷ []) ∷ object.list 4 ((whole (pos 2)) ∷ []) ∷ object.list 5 ((whole (pos 1)) ∷ (whole (pos 2)) ∷ []) ∷ [];
  ending = ended;
  choices = [];
  turns = 0;
}
unfolding answer turns_within
joins_lists = refl

-- all parts once more as long as the choice is even
--     z = [1, 2] * 3
abbrev repeats_a_list_module : Module
repeats_a_list_module = written (
    set "z" (binary (list (int 1 ∷ int 2 ∷ [])) bin.Mul (int 3)) ∷ [])

repeats_a_list : answered repeats_a_list_module [] 0 (0 ∷ 0 ∷ 2 ∷ 1 ∷ []) ([]) ≡ record {
  events = event.held 0 (ref 1) ∷ [];
  heap = object.list 3 ((whole (pos 1)) ∷ (whole (pos 2)) ∷ [])
      ∷ object.list 5 ((whole (pos 1)) ∷ (whole (pos 2)) ∷ (whole (pos 1)) ∷ (whole (pos 2)) ∷ []) ∷ [];
  ending = ended;
  choices = [];
  turns = 0;
}
unfolding answer turns_within
repeats_a_list = refl

--     z = 3 * (1,)
abbrev repeats_a_tuple_module : Module
repeats_a_tuple_module = written (
    set "z" (binary (int 3) bin.Mul (tuple (int 1 ∷ []))) ∷ [])

repeats_a_tuple : answered repeats_a_tuple_module [] 0 (0 ∷ 1 ∷ []) ([]) ≡ record {
  events = event.held 0 (ref 1) ∷ [];
  heap = object.tuple 3 object.places ((whole (pos 1)) ∷ []) ∷ object.tuple 4 object.parts ([]) ∷ [];
  ending = ended;
  choices = [];
  turns = 0;
}
unfolding answer turns_within
repeats_a_tuple = refl

--     z = 1 @ 2
abbrev multiplies_matrices_module : Module
multiplies_matrices_module = written (
    set "z" (binary (int 1) bin.MatMul (int 2)) ∷ [])

multiplies_matrices : answered multiplies_matrices_module [] 0 (0 ∷ []) ([]) ≡ record {
  events = event.fault 1 event.unsupported_operands event.on_another None ∷ [];
  heap = error (codes "TypeError") ∷ [];
  ending = raised_out (ref 0);
  choices = [];
  turns = 0;
}
unfolding answer turns_within
multiplies_matrices = refl

--     z = 1 + "a"
abbrev adds_a_text_to_a_number_module : Module
adds_a_text_to_a_number_module = written (
    set "z" (binary (int 1) bin.Add (str "a")) ∷ [])

adds_a_text_to_a_number : answered adds_a_text_to_a_number_module [] 0 (0 ∷ []) ([]) ≡ record {
  events = event.fault 1 event.unsupported_operands event.on_another None ∷ [];
  heap = error (codes "TypeError") ∷ [];
  ending = raised_out (ref 0);
  choices = [];
  turns = 0;
}
unfolding answer turns_within
adds_a_text_to_a_number = refl

--     z = -1
abbrev negates_module : Module
negates_module = written (
    set "z" (unary un.Minus (int 1)) ∷ [])

negates : answered negates_module [] 0 (0 ∷ 3 ∷ []) ([]) ≡ record {
  events = event.held 0 (whole (pos 3)) ∷ [];
  heap = [];
  ending = ended;
  choices = [];
  turns = 0;
}
unfolding answer turns_within
negates = refl

--     z = ~True
abbrev inverts_module : Module
inverts_module = written (
    set "z" (unary un.Invert (literal lit.TrueValue)) ∷ [])

inverts : answered inverts_module [] 0 (0 ∷ 3 ∷ []) ([]) ≡ record {
  events = event.held 0 (whole (pos 3)) ∷ [];
  heap = [];
  ending = ended;
  choices = [];
  turns = 0;
}
unfolding answer turns_within
inverts = refl

--     z = -"a"
abbrev negates_a_text_module : Module
negates_a_text_module = written (
    set "z" (unary un.Minus (str "a")) ∷ [])

negates_a_text : answered negates_a_text_module [] 0 (0 ∷ []) ([]) ≡ record {
  events = event.fault 1 event.unsupported_operands event.on_another None ∷ [];
  heap = error (codes "TypeError") ∷ [];
  ending = raised_out (ref 0);
  choices = [];
  turns = 0;
}
unfolding answer turns_within
negates_a_text = refl

-- `not` may not raise, and takes no choice here
--     z = not 0
--     y = not "a"
abbrev denies_module : Module
denies_module = written (
    set "z" (not (int 0)) ∷
    set "y" (not (str "a")) ∷ [])

denies : answered denies_module [] 0 ([]) ([]) ≡ record {
  events = event.held 1 (truth false) ∷ event.held 0 (truth true) ∷ [];
  heap = [];
  ending = ended;
  choices = [];
  turns = 0;
}
unfolding answer turns_within
denies = refl

--     z = 1 < 2.0
abbrev compares_numbers_module : Module
compares_numbers_module = written (
    set "z" (compare (int 1) cmp.Less (literal lit.Float)) ∷ [])

compares_numbers : answered compares_numbers_module [] 0 (0 ∷ 0 ∷ []) ([]) ≡ record {
  events = event.held 0 (truth true) ∷ [];
  heap = [];
  ending = ended;
  choices = [];
  turns = 0;
}
unfolding answer turns_within
compares_numbers = refl

--     z = 1 < "a"
abbrev compares_a_number_with_a_text_module : Module
compares_a_number_with_a_text_module = written (
    set "z" (compare (int 1) cmp.Less (str "a")) ∷ [])

compares_a_number_with_a_text : answered compares_a_number_with_a_text_module [] 0 (0 ∷ []) ([]) ≡ record {
  events = event.fault 1 event.unsupported_operands event.on_another None ∷ [];
  heap = error (codes "TypeError") ∷ [];
  ending = raised_out (ref 0);
  choices = [];
  turns = 0;
}
unfolding answer turns_within
compares_a_number_with_a_text = refl

--     z = 1 == "a"
abbrev compares_for_equality_module : Module
compares_for_equality_module = written (
    set "z" (compare (int 1) cmp.Equal (str "a")) ∷ [])

compares_for_equality : answered compares_for_equality_module [] 0 (0 ∷ 1 ∷ []) ([]) ≡ record {
  events = event.held 0 (truth false) ∷ [];
  heap = [];
  ending = ended;
  choices = [];
  turns = 0;
}
unfolding answer turns_within
compares_for_equality = refl

--     z = None is None
--     y = 1 is None
--     x = None is not None
abbrev is_none_module : Module
is_none_module = written (
    set "z" (compare (literal lit.NoneValue) cmp.Is (literal lit.NoneValue)) ∷
    set "y" (compare (int 1) cmp.Is (literal lit.NoneValue)) ∷
    set "x" (compare (literal lit.NoneValue) cmp.IsNot (literal lit.NoneValue)) ∷ [])

is_none : answered is_none_module [] 0 (0 ∷ 0 ∷ 0 ∷ []) ([]) ≡ record {
  events = event.held 2 (truth false) ∷ event.held 1 (truth false) ∷ event.held 0 (truth true) ∷ [];
  heap = [];
  ending = ended;
  choices = [];
  turns = 0;
}
unfolding answer turns_within
is_none = refl

-- of numbers it is not known
--     z = 1 is 1
abbrev is_the_same_number_module : Module
is_the_same_number_module = written (
    set "z" (compare (int 1) cmp.Is (int 1)) ∷ [])

is_the_same_number : answered is_the_same_number_module [] 0 (0 ∷ 1 ∷ []) ([]) ≡ record {
  events = event.held 0 (truth false) ∷ [];
  heap = [];
  ending = ended;
  choices = [];
  turns = 0;
}
unfolding answer turns_within
is_the_same_number = refl

--     z = True is True
--     y = True is not True
abbrev is_the_same_truth_value_module : Module
is_the_same_truth_value_module = written (
    set "z" (compare (literal lit.TrueValue) cmp.Is (literal lit.TrueValue)) ∷
    set "y" (compare (literal lit.TrueValue) cmp.IsNot (literal lit.TrueValue)) ∷ [])

is_the_same_truth_value : answered is_the_same_truth_value_module [] 0 (0 ∷ 0 ∷ []) ([]) ≡ record {
  events = event.held 1 (truth false) ∷ event.held 0 (truth true) ∷ [];
  heap = [];
  ending = ended;
  choices = [];
  turns = 0;
}
unfolding answer turns_within
is_the_same_truth_value = refl

--     z = 1 in [2]
--     y = "a" not in "b"
abbrev is_within_module : Module
is_within_module = written (
    set "z" (compare (int 1) cmp.Within (list (int 2 ∷ []))) ∷
    set "y" (compare (str "a") cmp.NotWithin (str "b")) ∷ [])

is_within : answered is_within_module [] 0 (0 ∷ 1 ∷ 0 ∷ 0 ∷ []) ([]) ≡ record {
  events = event.held 1 (truth true) ∷ event.held 0 (truth false) ∷ [];
  heap = object.list 3 ((whole (pos 2)) ∷ []) ∷ [];
  ending = ended;
  choices = [];
  turns = 0;
}
unfolding answer turns_within
is_within = refl

--     z = "a" in b"x"
abbrev is_within_bytes_module : Module
is_within_bytes_module = written (
    set "z" (compare (str "a") cmp.Within (bytes "x")) ∷ [])

is_within_bytes : answered is_within_bytes_module [] 0 (0 ∷ []) ([]) ≡ record {
  events = event.fault 1 event.unsupported_operands event.on_another None ∷ [];
  heap = error (codes "TypeError") ∷ [];
  ending = raised_out (ref 0);
  choices = [];
  turns = 0;
}
unfolding answer turns_within
is_within_bytes = refl

-- `and` and `or` give one of their operands, and the second isn't evaluated where the first decides
--     z = 0 or "t"
--     y = 1 and None
--     x = 2 or nope
abbrev gives_an_operand_module : Module
gives_an_operand_module = written (
    set "z" (or (int 0) (str "t")) ∷
    set "y" (and (int 1) (literal lit.NoneValue)) ∷
    set "x" (or (int 2) (name "nope")) ∷ [])

gives_an_operand : answered gives_an_operand_module [] 0 ([]) ([]) ≡ record {
  events = event.held 2 (whole (pos 2)) ∷ event.held 1 none ∷ event.held 0 (text false) ∷ [];
  heap = [];
  ending = ended;
  choices = [];
  turns = 0;
}
unfolding answer turns_within
gives_an_operand = refl

-- the truth of a float is a choice
--     z = 1 if 1.5 else 2
abbrev chooses_by_a_float_module : Module
chooses_by_a_float_module = written (
    set "z" (choice (int 1) (literal lit.Float) (int 2)) ∷ [])

chooses_by_a_float : answered chooses_by_a_float_module [] 0 (1 ∷ []) ([]) ≡ record {
  events = event.held 0 (whole (pos 1)) ∷ [];
  heap = [];
  ending = ended;
  choices = [];
  turns = 0;
}
unfolding answer turns_within
chooses_by_a_float = refl

-- the choice 63 + 64 * 35 raises the class of number 35 mod 34; that is no event
--     z = 1 + 1
abbrev raises_by_choice_module : Module
raises_by_choice_module = written (
    set "z" (binary (int 1) bin.Add (int 1)) ∷ [])

raises_by_choice : answered raises_by_choice_module [] 0 (2303 ∷ []) ([]) ≡ record {
  events = [];
  heap = error (codes "SystemExit") ∷ [];
  ending = raised_out (ref 0);
  choices = [];
  turns = 0;
}
unfolding answer turns_within
raises_by_choice = refl

-- nothing is known of a name that isn't bound, nor of a sum with it
--     z = nope + 1
abbrev adds_to_anything_module : Module
adds_to_anything_module = written (
    set "z" (binary (name "nope") bin.Add (int 1)) ∷ [])

adds_to_anything : answered adds_to_anything_module [] 0 (0 ∷ 0 ∷ []) ([]) ≡ record {
  events = event.held 0 (ref 1) ∷ [];
  heap = anything ∷ anything ∷ [];
  ending = ended;
  choices = [];
  turns = 0;
}
unfolding answer turns_within
adds_to_anything = refl

--     z = nope == 1
--     y = nope < 1
abbrev compares_with_anything_module : Module
compares_with_anything_module = written (
    set "z" (compare (name "nope") cmp.Equal (int 1)) ∷
    set "y" (compare (name "nope") cmp.Less (int 1)) ∷ [])

compares_with_anything : answered compares_with_anything_module [] 0 (0 ∷ 0 ∷ 1 ∷ 0 ∷ 0 ∷ []) ([]) ≡ record {
  events = event.held 2 (ref 2) ∷ event.held 0 (truth false) ∷ [];
  heap = anything ∷ anything ∷ anything ∷ [];
  ending = ended;
  choices = [];
  turns = 0;
}
unfolding answer turns_within
compares_with_anything = refl

--     x = 1
--     x += 2
abbrev adds_in_place_module : Module
adds_in_place_module = written (
    set "x" (int 1) ∷
    augment (name "x") bin.Add (int 2) ∷ [])

adds_in_place : answered adds_in_place_module [] 0 (0 ∷ 0 ∷ 8 ∷ []) ([]) ≡ record {
  events = event.held 0 (whole (pos 8)) ∷ [];
  heap = [];
  ending = ended;
  choices = [];
  turns = 0;
}
unfolding answer turns_within
adds_in_place = refl

-- the list itself grows
--     xs = [1]
--     ys = xs
--     xs += "a"
abbrev extends_in_place_module : Module
extends_in_place_module = written (
    set "xs" (list (int 1 ∷ [])) ∷
    set "ys" (name "xs") ∷
    augment (name "xs") bin.Add (str "a") ∷ [])

extends_in_place : answered extends_in_place_module [] 0 (0 ∷ 0 ∷ 0 ∷ 0 ∷ 2 ∷ 1 ∷ []) ([]) ≡ record {
  events = event.held 0 (ref 0) ∷ event.held 1 (ref 0) ∷ [];
  heap = object.list 2 ((whole (pos 1)) ∷ (text true) ∷ []) ∷ [];
  ending = ended;
  choices = [];
  turns = 0;
}
unfolding answer turns_within
extends_in_place = refl

--     xs = [1]
--     xs += 3
abbrev extends_by_a_number_module : Module
extends_by_a_number_module = written (
    set "xs" (list (int 1 ∷ [])) ∷
    augment (name "xs") bin.Add (int 3) ∷ [])

extends_by_a_number : answered extends_by_a_number_module [] 0 (0 ∷ 0 ∷ []) ([]) ≡ record {
  events = event.fault 2 event.not_iterable event.on_another None ∷ [];
  heap = object.list 2 ((whole (pos 1)) ∷ []) ∷ error (codes "TypeError") ∷ [];
  ending = raised_out (ref 1);
  choices = [];
  turns = 0;
}
unfolding answer turns_within
extends_by_a_number = refl

--     xs = [1]
--     xs *= 2
abbrev repeats_in_place_module : Module
repeats_in_place_module = written (
    set "xs" (list (int 1 ∷ [])) ∷
    augment (name "xs") bin.Mul (int 2) ∷ [])

repeats_in_place : answered repeats_in_place_module [] 0 (0 ∷ 0 ∷ 0 ∷ 0 ∷ 1 ∷ []) ([]) ≡ record {
  events = event.held 0 (ref 0) ∷ [];
  heap = object.list 2 ((whole (pos 1)) ∷ (whole (pos 1)) ∷ []) ∷ [];
  ending = ended;
  choices = [];
  turns = 0;
}
unfolding answer turns_within
repeats_in_place = refl
