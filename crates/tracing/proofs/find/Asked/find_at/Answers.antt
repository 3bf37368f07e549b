-- `find_at` meets its contract: the direction's scan is that of the setting.
use Rattle.headings.proofs.Directions.{usable_long}
use Rattle.tracing.proofs.Scanned.{sound_of}
use Rattle.tracing.proofs.Finding.{scan_found}
use Rattle.tracing.proofs.find.Asked.find_at.Goals as goal

pub new-scan-requires : goal.new-scan-requires
new-scan-requires c =
    let a = c.args in
    let p = c.requires.accepted in
    record {
      good_size = p.size;
      le_length = (p.long, p.short, p.few_gaps, c.requires.x_bound.1);
      long = usable_long a.self.now.width a.self.now.height a.self.now.setting a.index c.requires.x_bound.1 c.requires.x_bound.2;
    }

pub returns : goal.returns
returns c =
    let a = c.args in record { found_at = scan_found c.new-scan.result a.self.now.width a.self.now.height a.self.now.setting a.index (sound_of c.new-scan.result) c.new-scan.ensures c.requires.accepted.long a.self.now.plate.now a.self.now.x a.found c.find_in.result c.find_in.ensures.found_in; levels = c.find_in.ensures.levels }
