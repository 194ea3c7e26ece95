use Rattle.std.proofs.Common.{◌≡◌, subst, IfOk}
use Rattle.jl_token.proofs.Texts.{bytes-before}
use Rattle.jl_token.proofs.words.bytes_before.Goals as goal

pub returns : goal.returns
returns c =
    bytes-before c.args.text.now c.args.rest.now c.share.result c.utf8.text c.utf8.rest
    (subst (λ v. IfOk c.share.result (λ b. b ≡ v)) c.front.ensures c.share.ensures)
