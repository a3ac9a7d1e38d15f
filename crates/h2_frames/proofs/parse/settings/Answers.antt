use Rattle.h2_frames.proofs.SettingLemmas.{settings_more, settings_all}
use Rattle.h2_frames.proofs.parse.settings.Goals as goal

pub settings-preserved : goal.settings-preserved
settings-preserved c =
    rw c.split_at.ensures.back (settings_more c.settings.values.items c.push.new.self.items c.settings.rest.now _ c.from_be_bytes-name.result c.number_in-value.result c.settings-test.true c.from_be_bytes-name.ensures c.number_in-value.ensures c.in_ok-push.ensures.items c.settings.invariant)

pub returns : goal.returns
returns c = rw c.from_vec.ensures (settings_all c.settings.values.items c.settings.rest.now _ c.settings-test.false c.settings.invariant)
