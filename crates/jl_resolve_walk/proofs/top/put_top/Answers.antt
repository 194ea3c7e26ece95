use Rattle.jl_resolve_walk.proofs.GivenLemmas.{weaker_on}
use Rattle.jl_resolve_walk.proofs.Tops.{top-Abstract, top-Struct, top-Method, top-Bind, top-Do}
use Rattle.jl_resolve_walk.proofs.top.put_top.Goals as goal

pub returns-in-Abstract : goal.returns-in-Abstract
returns-in-Abstract g c =
    let ts = g.J.Judge.tests c.args.judge.now in
    weaker_on c.declare_type.result _ _ c.declare_type.ensures
    (λ h. top-Abstract ts c.args.known.now c.args.text.now c.in-Abstract.field-0 c.args.out.now c.args.scope.now c.declare_type.new.scope c.args.state.now c.in-Abstract.is h)

pub returns-in-Struct : goal.returns-in-Struct
returns-in-Struct g c =
    let ts = g.J.Judge.tests c.args.judge.now in
    weaker_on c.declare_type-in-Struct.result _ _ c.declare_type-in-Struct.ensures
    (λ h. top-Struct ts c.args.known.now c.args.text.now c.in-Struct.field-0 c.args.out.now c.args.scope.now c.declare_type-in-Struct.new.scope c.args.state.now c.in-Struct.is h)

pub returns-in_ok-site-in-Method : goal.returns-in_ok-site-in-Method
returns-in_ok-site-in-Method g c =
    let ts = g.J.Judge.tests c.args.judge.now in
    weaker_on c.push.result _ _ c.push.ensures
    (λ h. top-Method ts c.args.known.now c.args.text.now c.in-Method.text c.args.out.now c.push.new.self c.args.scope.now c.args.state.now c.method.new.state c.in_ok-site-in-Method.site c.in-Method.is c.in_ok-site-in-Method.ensures h)

pub returns-in_ok-statement-in-Bind : goal.returns-in_ok-statement-in-Bind
returns-in_ok-statement-in-Bind g c =
    let ts = g.J.Judge.tests c.args.judge.now in
    weaker_on c.push-in-Bind.result _ _ c.push-in-Bind.ensures
    (λ h. top-Bind ts c.args.known.now c.args.text.now c.in-Bind.name c.in-Bind.value c.args.out.now c.push-in-Bind.new.self c.args.scope.now c.expr.new.scope c.bind_top.new.scope c.args.state.now c.expr.new.state c.bind_top.new.state c.in_ok-code-in-Bind.code c.in_ok-statement-in-Bind.statement c.in-Bind.is c.in_ok-code-in-Bind.ensures.means c.in_ok-code-in-Bind.ensures.kept c.in_ok-statement-in-Bind.ensures h)

pub returns-in_ok-code-in-Do : goal.returns-in_ok-code-in-Do
returns-in_ok-code-in-Do g c =
    let ts = g.J.Judge.tests c.args.judge.now in
    weaker_on c.push-in-Do.result _ _ c.push-in-Do.ensures
    (λ h. top-Do ts c.args.known.now c.args.text.now c.in-Do.value c.args.out.now c.push-in-Do.new.self c.args.scope.now c.expr-in-Do.new.scope c.args.state.now c.expr-in-Do.new.state c.in_ok-code-in-Do.code c.in-Do.is c.in_ok-code-in-Do.ensures.means c.in_ok-code-in-Do.ensures.kept h)
