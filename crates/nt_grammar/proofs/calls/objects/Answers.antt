use Rattle.std.proofs.lemmas.Result.{err_from_is_err_and}
use Rattle.nt_grammar.proofs.Parsing.{objects_next, objects_fail}
use Rattle.nt_grammar.proofs.calls.objects.Goals as goal

pub loop-word-preserved : goal.loop-word-preserved
loop-word-preserved c =
    rw c.in_ok-push.ensures.ok
    (objects_next c.args.bindings.now.scope c.loop-word.handles c.loop-word.words c.next.new.self c.in-Ok.word.now c.in_ok-object.object _ c.in-Ok.ensures c.in_ok-object.ensures c.loop-word.invariant)

pub returns-in_err-object : goal.returns-in_err-object
returns-in_err-object c =
    let p = err_from_is_err_and c.from_residual.result c.from_residual.ensures.1 in
    rw (p.1, p.2)
    (objects_fail c.args.bindings.now.scope c.loop-word.handles c.loop-word.words c.next.new.self c.in-Ok.word.now c.in_err-object.field-0.0 _ c.in-Ok.ensures c.in_err-object.ensures c.loop-word.invariant)
