use Rattle.py_meaning.proofs.KindTables
use Rattle.py_meaning.proofs.laws.subscripts_are_by_kind.Goals as goal

pub returns : goal.returns
returns c =
    record { slices = KindTables.other_kinds_have_no_slice; kinds = KindTables.slices_keep_their_kind; stores = KindTables.other_kinds_take_no_items; faults = KindTables.stores_are_no_faults }
