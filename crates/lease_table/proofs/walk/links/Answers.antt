use Rattle.std.proofs.Common.{sym, ap, ◌∙◌}
use Rattle.lease_table.specs.Table.{without}
use Rattle.lease_table.specs.Pairs.{leads}
use Rattle.lease_table.proofs.PairSetLaws.{leads_blob, links_file, leads_without, leads_gone, as_its_kind}
use Rattle.lease_table.proofs.walk.links.Goals as goal

pub returns-in-File : goal.returns-in-File
returns-in-File c = links_file (without c.args.gone.now c.args.rows.now) c.args.pair.now c.in-File.is

pub returns-then-is_among : goal.returns-then-is_among
returns-then-is_among c = λ other.
    sym (leads_gone c.args.gone.now c.args.rows.now c.args.pair.now.digest other (sym c.is_among.ensures ∙ c.if-is_among.true))
    ∙ ap (λ from. leads (without c.args.gone.now c.args.rows.now) from other) (sym (as_its_kind c.args.pair.now c.in-Dir.is))

pub returns-else-is_among : goal.returns-else-is_among
returns-else-is_among c = λ other.
    c.edges_of.ensures other
    ∙ sym (leads_blob c.args.rows.now c.args.pair.now.digest other)
    ∙ sym (leads_without c.args.gone.now c.args.rows.now c.args.pair.now.digest other (sym c.is_among.ensures ∙ c.if-is_among.false))
    ∙ ap (λ from. leads (without c.args.gone.now c.args.rows.now) from other) (sym (as_its_kind c.args.pair.now c.in-Dir.is))
