use Rattle.std.proofs.Common.{Vec, length, ◌<◌, sym}
use Rattle.std.specs.Global.{Global}
use Rattle.std.proofs.lemmas.Option.{slice_get_within}
use Rattle.py_tree.specs.declared.statement.Stmt.{Stmt}
use Rattle.py_tree.specs.View.{stmts_view}
use Rattle.py_parse.proofs.Depths.{too_deep_here}
use Rattle.py_parse.proofs.Parsing.{shallow_answered, deep_answered}
use Rattle.py_parse.proofs.module.parse.Goals as goal

pub returns-in-Some : goal.returns-in-Some
returns-in-Some c =
    let within : c.in_ok-limit.limit < length c.args.tokens.now.tokens = slice_get_within c.args.tokens.now.tokens c.in_ok-limit.limit c.in-Some.token.now (sym c.in-Some.ensures) in
    let answered = deep_answered c.args.tokens.now c.deepened.result (too_deep_here c.args.tokens.now.tokens c.in_ok-limit.limit c.in_ok-limit.ensures within) in
    record { read = answered.read; whole = answered.whole; refused = answered.refused }

pub returns-in-None : goal.returns-in-None
returns-in-None c =
    let answered = shallow_answered (λ (b : Vec Stmt Global). stmts_view b.items) c.args.tokens.now c.in_ok-limit.limit c.new-parser.result c.module-read.result c.module-read.new.self c.names.result.now c.finished.result
    c.in_ok-limit.ensures c.in-None.ensures c.new-parser.ensures c.module-read.ensures c.names.ensures c.finished.ensures in
    record { read = answered.read; whole = answered.whole; refused = answered.refused }
