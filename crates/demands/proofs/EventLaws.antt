-- An event's records: the first is administrative.
-- The idea: before the first record nothing has come, and nothing but an administrative record is admitted then.
use mathlib.Core.Path.{◌≡◌, refl}
use mathlib.Core.Bool.{Bool, true, false, cond}
use lib.Dec.{eqb}
use borrow.Author.Tests.{eqb-true}
use Rattle.theory.specs.declared.Order.{Order}
use Rattle.note.specs.Administrative.{administrative_kind}
use Rattle.note.specs.Records.{Record, event, unseen, is_placed, is_allowed}
use Rattle.demands.specs.Valid.{ValidRecord}

pub first-administrative : (o : Order) (r : Record) → ValidRecord o (event unseen) r → r.word ≡ administrative_kind.word
unfolding is_allowed is_placed
first-administrative o r v = go (eqb r.word administrative_kind.word) refl v.place_allowed
  where
    go : (b : Bool) → eqb r.word administrative_kind.word ≡ b → cond b true false ≡ true → r.word ≡ administrative_kind.word
    go true e q = eqb-true r.word administrative_kind.word e
    go false e q = absurd (mathlib.Core.Bool.false≢true q)
