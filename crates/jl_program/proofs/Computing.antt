use Rattle.std.specs.Str.{is_utf8, chars}
use lib.Utf8.{encode}
use Rattle.unicode_ident.proofs.Computing.{unicode_ident}

-- `unfolding names` lets `refl` compute whether a text is a name
unfoldable pub names : Unit {0}
unfolding is_utf8 chars encode unicode_ident
names = tt
