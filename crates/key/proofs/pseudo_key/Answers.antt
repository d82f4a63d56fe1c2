use Rattle.std.proofs.Common.{◌≡◌, ◌∙◌, ap, rules}
use Rattle.std.specs.List.{fold}
use Rattle.spec.specs.Key.{mixed}
use Rattle.key.specs.Mix.{pseudo_key-fold}
use Rattle.key.proofs.pseudo_key.Goals as goal

pub returns : goal.returns
returns c =
    let e : c.fold.result ≡ fold mixed 2166136261 c.to_le_bytes.result = search rules in
    e ∙ ap (fold mixed 2166136261) c.to_le_bytes.ensures ∙ pseudo_key-fold c.args.call
