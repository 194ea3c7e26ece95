-- A script that is read is well formed, where none of its items is too deep.
use Rattle.std.proofs.Common.{◌≡◌, ℕ, ◌≤◌, max, Bool, true, false, nat_lt, cond, Option, Some, None, Ok, List, [], ◌∷◌, ◌++◌, refl, arith, ltb-false, subst}
use Rattle.jl_token.specs.declared.token.Token.{Token}
use Rattle.jl_token.specs.Grammar.{ReadsSource}
use Rattle.jl_typeread.specs.declared.terminal.Terminal.TheVariants as S
use Rattle.jl_typeread.specs.declared.terminal.Word.TheVariants as w
use Rattle.jl_typeread.specs.Lexemes as X
use Rattle.jl_grammar.specs.declared.state.Form.{Form}
use Rattle.jl_grammar.specs.declared.state.ItemsRead.{ItemsRead}
use Rattle.jl_grammar.specs.declared.tree.Item.{Item}
use Rattle.jl_grammar.specs.declared.tree.Script.{Script}
use Rattle.jl_grammar.specs.Forms as M
use Rattle.jl_grammar.specs.Grammar as GR
use Rattle.jl_grammar.specs.Reads.{text}
use Rattle.jl_grammar.specs.Texts.{Text, Spot, tok, wrd, name_in}
use Rattle.jl_formed.specs.Formed as F
use Rattle.jl_formed.specs.Formed.{FormedItem, FormedItems, FormedScript}
use Rattle.jl_formed.proofs.Heads.{formed_header_text, formed_fields}
use Rattle.jl_formed.proofs.Rows.{items_behind}
use Rattle.jl_formed.proofs.Sound.{Sound, text_split, seen_sound}
use Rattle.jl_formed.proofs.Trees.{formed_expression, formed_long, formed_short}

header-fits : (d : ℕ) → M.depth_around d ≤ 500 → d ≤ 500
header-fits d l = omega (arith, l)

struct-fits : (a d : ℕ) → M.depth_around (max a d) ≤ 500 → (a ≤ 500) × (d ≤ 500)
struct-fits a d l = (omega (arith, l), omega (arith, l))

formed-item : (x : Form Item) (ts : Text) → GR.ItemText x ts → Sound ts → x.depth ≤ 500 → FormedItem x.tree
formed-item _ _ (GR.abstract_item h p q v ts d) s l = F.abstract_item h.tree (formed_header_text p.at h ts d (text_split ts (wrd w.End v ∷ []) s.1.1).0 (header-fits h.depth l))
formed-item _ _ (GR.struct_item h xs p q ts us a c) s l =
    let x = text_split (ts ++ us) (wrd w.End q ∷ []) s.1 in
    let y = text_split ts us x.0 in
    let f = struct-fits h.depth xs.depth l in
    F.struct_item h.tree xs.trees (formed_header_text p.at h ts a y.0 f.0) (formed_fields xs us c y.1 f.1)
formed-item _ _ (GR.long_item m ts d) s l = F.method_item m.tree (formed_long m ts d s l)
formed-item _ _ (GR.short_item m ts d) s l = F.method_item m.tree (formed_short m ts d s l)
formed-item _ _ (GR.bind_item n e p q ts is d) s l = F.bind_item (name_in n p) e.tree s.0 (formed_expression false e ts d s.1.1)
formed-item _ _ (GR.expr_item e ts is d) s l = F.do_item e.tree (formed_expression false e ts d s)

-- where none of two is too deep, neither is
neither : (a : Option ℕ) (b : Bool) (at : ℕ) → M.first_place a (cond b (Some at) None) ≡ None → (a ≡ None) × (b ≡ false)
neither (Some x) b at e = absurd cc
neither None true at e = absurd cc
neither None false at e = (refl, refl)

mutual
  formed-before : (xs : ItemsRead) (ts : Text) → GR.ItemsBefore xs ts → Sound ts → xs.too_deep ≡ None → FormedItems xs.items
  formed-before _ _ GR.no_items s e = F.no_items
  formed-before _ _ (GR.items_again xs t ts d is) s e = formed-before xs ts d (text_split ts (t ∷ []) s).0 e
  formed-before _ _ (GR.items_apart xs t ts d is) s e = formed-after xs ts d (text_split ts (t ∷ []) s).0 e

  formed-after : (xs : ItemsRead) (ts : Text) → GR.ItemsAfter xs ts → Sound ts → xs.too_deep ≡ None → FormedItems xs.items
  formed-after _ _ (GR.items_one xs x ts us a c) s e =
      let y = text_split ts us s in
      let f = neither xs.too_deep (nat_lt 500 x.depth) x.at e in
      items_behind xs.items x.tree (formed-before xs ts a y.0 f.0) (formed-item x us c y.1 (ltb-false 500 x.depth f.1))

formed-script : (xs : ItemsRead) (ts : Text) → GR.ScriptText xs ts → Sound ts → xs.too_deep ≡ None → FormedItems xs.items
formed-script _ _ (GR.script_before xs ts d) s e = formed-before xs ts d s e
formed-script _ _ (GR.script_after xs ts d) s e = formed-after xs ts d s e

pub script_formed : (bytes : List ℕ) (tokens : List Token) (ts : Text) (end : Spot) (s : Script) → ReadsSource bytes (Ok tokens) → text (X.lexemes tokens) ≡ ts ++ tok S.End end ∷ []
    → GR.ScriptText (record { items = s.items; too_deep = None }) ts → FormedScript s
script_formed bytes tokens ts end s has is d =
    formed-script (record { items = s.items; too_deep = None }) ts d (text_split ts (tok S.End end ∷ []) (subst Sound is (seen_sound bytes tokens has))).0 refl
