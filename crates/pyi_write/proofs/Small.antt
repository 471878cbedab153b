-- The small stub is normal, and has its text.
use Rattle.std.proofs.Common.{codes, refl, arith}
use Rattle.std.specs.List.{IsDistinct}
use Rattle.type_terms.specs.Normal.{IsAmong, here, there, IsNormal}
use Rattle.type_terms.specs.ProperStubs.{stub_terms}
use Rattle.type_terms.specs.Terms.{Term}
use Rattle.pyi_write.specs.NormalStubs.{IsNormalStub, path_one, path_more}
use Rattle.pyi_write.specs.SmallStub.{small_stub, SmallStub}
use Rattle.pyi_write.proofs.Reading.{ascii_identifier}

normals : (t : Term) → IsAmong t (stub_terms small_stub) → IsNormal t
normals t here = tt
normals t (there here) = tt
normals t (there (there here)) = refl
normals t (there (there (there here))) = (tt, refl)
normals t (there (there (there (there none)))) = elim none [ ]

small_normal : IsNormalStub small_stub
unfolding IsDistinct
small_normal =
    let class_name = ascii_identifier (codes "C") refl refl refl in
    record {
      proper = record {
        normal = normals;
        own = refl;
        once = ((refl, (refl, tt)), ((refl, tt), (tt, tt)));
        once_inside = ((tt, tt), tt);
        bases = refl;
        known = refl;
      };
      identifiers = (
        ascii_identifier (codes "x") refl refl refl,
        (
          ascii_identifier (codes "f") refl refl refl,
          (ascii_identifier (codes "a") refl refl refl, (class_name, (ascii_identifier (codes "object") refl refl refl, (ascii_identifier (codes "v") refl refl refl, tt)))),
        ),
      );
      paths = (tt, (tt, (path_more {first = codes "m"} {rest = codes "K"} refl (ascii_identifier (codes "m") refl refl refl) (path_one (ascii_identifier (codes "K") refl refl refl)), ((tt, path_one class_name), tt))));
      brackets = ((omega arith), ((omega arith), ((omega arith), ((omega arith), tt))));
      rise = tt;
      plain = ((refl, tt), tt);
      orderly = (record { rise = tt; plain = tt }, tt);
    }

pub small : SmallStub
small = record { normal = small_normal; text = refl }
