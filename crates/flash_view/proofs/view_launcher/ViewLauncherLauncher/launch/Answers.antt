use Rattle.flash_view.proofs.NotedLaunch.{launch_noted}
use Rattle.flash_view.proofs.view_launcher.ViewLauncherLauncher.launch.Goals as goal

pub returns-in-Same-clause-launches : goal.returns-in-Same-clause-launches
returns-in-Same-clause-launches g c t =
    launch_noted c.args.image c.args.label c.args.self.now c.self.inside.flash.now c.in-Some.note c.in-Some-bytes_in.bytes.now g.D.Disk.told (g.D.Disk.flash c.args.disk.now).reads c.in-Some.ensures c.in-Some-bytes_in.ensures.0 c.in-Some-bytes_in.ensures.1 c.in-Same.ensures.stood
