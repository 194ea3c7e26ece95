-- What a closure captures by four references, or by five, crosses threads with what they refer to.
use mathlib.Core.List.{List, [], ◌∷◌}
use denote.RattleType.{RattleType}
use denote.Ref.{NamedLft, ShrRef}
use denote.Param.Send.{IsSync, recorded_sync, struct_sync, shr_sync}
use denote.Struct.Declared.{shape}
use denote.Struct.Tuple.{TupleAt, field_at, type_at}

abbrev Lent : NamedLft → RattleType → RattleType
Lent ℓ R = ShrRef ℓ.mir ℓ.lft R

abbrev Four : (a b c d : NamedLft) (R S T U : RattleType) → List RattleType
Four a b c d R S T U = Lent a R ∷ Lent b S ∷ Lent c T ∷ Lent d U ∷ []

abbrev pub Captured : (a b c d : NamedLft) (R S T U : RattleType) → RattleType
Captured a b c d R S T U = TupleAt [] (Four a b c d R S T U)

lent_sync : (ℓ : NamedLft) (R : RattleType) → IsSync R → IsSync (Lent ℓ R)
lent_sync ℓ R s = shr_sync ℓ.mir ℓ.lft R s

pub four_lent : (a b c d : NamedLft) (R S T U : RattleType) → IsSync R → IsSync S → IsSync T → IsSync U → IsSync (Captured a b c d R S T U)
four_lent a b c d R S T U r s t u = let Rs : List RattleType = Four a b c d R S T U in
    recorded_sync (field_at [] Rs).row _ _ (type_at [] Rs).to_one (struct_sync (shape (type_at [] Rs)) (lent_sync a R r, (lent_sync b S s, (lent_sync c T t, (lent_sync d U u, tt)))))

abbrev Five : (a b c d e : NamedLft) (R S T U V : RattleType) → List RattleType
Five a b c d e R S T U V = Lent a R ∷ Four b c d e S T U V

abbrev pub CapturedFive : (a b c d e : NamedLft) (R S T U V : RattleType) → RattleType
CapturedFive a b c d e R S T U V = TupleAt [] (Five a b c d e R S T U V)

pub five_lent : (a b c d e : NamedLft) (R S T U V : RattleType) → IsSync R → IsSync S → IsSync T → IsSync U → IsSync V → IsSync (CapturedFive a b c d e R S T U V)
five_lent a b c d e R S T U V r s t u v = let Rs : List RattleType = Five a b c d e R S T U V in
    recorded_sync (field_at [] Rs).row _ _ (type_at [] Rs).to_one
    (struct_sync (shape (type_at [] Rs)) (lent_sync a R r, (lent_sync b S s, (lent_sync c T t, (lent_sync d U u, (lent_sync e V v, tt))))))
